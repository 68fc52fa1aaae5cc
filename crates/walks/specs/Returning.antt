-- The last call of a function, whose result is what the function returns: the callee is called, its
-- result stored in the first local, and the locals freed.
use Rattle.std.specs.Prelude.{◌≡◌, refl, List, [], ◌∷◌, ◌++◌, ℕ, zero, T}
use Rattle.std.proofs.Math.Option.{none, some}
use seplogic.Ra.Ura.{Ura}
use mir.Syntax.{Ty, Callee, place, Opd as Operand, seq, call, return}
use mir.Val.{Val, has_ty, WT}
use base.Logic.{SProp, ent, emp, via, snd∗}
use prog.Wp.{Env, Calls, Loops}
use types.Logic.{Logic}
use contract.Monad.{fact}
use sound.WpLaws.{FmC}
use types.Kit.{Item, ‵, raw, mean, ⋆, pop, Seq, runs, at_ret, ◌$◌}
use types.Run.{Opds, look, init, stop, from, land, returns}
use denote.Laws.{Is, Tells}
use denote.Signature.{type_at, types_at}
use denote.Triple.Statement.{Triple}
use denote.Triple.Entry.{Res, alive}
use denote.Triple.Clauses.{Ended, Clauses, Lasts, at_exit, lasts}
use Rattle.walks.specs.Frames.{Known, locals, leaves}
use Rattle.walks.specs.Calls.{called_owning}
use Rattle.walks.specs.Meeting.{Promised}
use Rattle.walks.specs.Handing.{Marks, had, Made, hands}

-- j is what is kept beside the locals.
module _ {M : Type 1} {𝓤 : Ura M} {K : Type 0} (𝓛 : Logic 𝓤) {E : Env 𝓤 𝓛.H} {e : Ty × ℕ} {C : Calls 𝓤 𝓛.H} {Λ : Loops 𝓤 𝓛.H} {Kf : Val → SProp 𝓤}
    {f : Callee} {xs : List Operand} (t : K) (fm : FmC 𝓤 𝓛.H 𝓛.laws C) (T' : Ended) (c : Clauses 𝓤 T') (known : Triple 𝓤 (C f) (Promised 𝓛 T' c)) (y : (Promised 𝓛 T' c).Ghost)
    (ms : Marks) (tk : Item 𝓤) (is-alive : mean 𝓛 tk ≡ alive 𝓛 T'.signature y.0.0 y.0.1) (made : Made 𝓛 ms (types_at T'.signature.params y.0.0) y.0.3 y.0.4)
    (asked : ent 𝓤 (emp 𝓤) ((c y.0.0 y.0.3).requires y.1))
    (spelled : Res T'.signature y.0.0 → Val) (tells : Tells (type_at T'.signature.result y.0.0) (Is (type_at T'.signature.result y.0.0)) (λ r. spelled r ∷ []))
    (φ : Res T'.signature y.0.0 → Lasts T' y.0.0 y.0.3 → Type 0)
    (says : (r : Res T'.signature y.0.0) (ws : Lasts T' y.0.0 y.0.3) → (c y.0.0 y.0.3).ensures y.1 r (at_exit T' y.0.0 y.0.3 ws) ≡ fact 𝓤 (φ r ws))
    (j : Item 𝓤) (vs : Known)
    (os : Opds K 𝓛 (raw ((Promised 𝓛 T' c).pre y) ∷ j ∷ locals 𝓛 (e ∷ E) (none ∷ vs) []) (e ∷ E) xs ((Promised 𝓛 T' c).args y))
    (typed : (r : Res T'.signature y.0.0) → Is (type_at T'.signature.result y.0.0) r (spelled r ∷ []) → T (has_ty e.0 (spelled r)) × WT (spelled r)) where
  -- The result is owned, as a part of a slice that is handed back is, and the function hands it on.
  pub returns_owned : ((r : Res T'.signature y.0.0) (ws : Lasts T' y.0.0 y.0.3) → φ r ws → Is (type_at T'.signature.result y.0.0) r (spelled r ∷ [])
      → ent 𝓤 (⋆ 𝓛 (‵ ((type_at T'.signature.result y.0.0).own_val r (spelled r ∷ [])) ∷ tk ∷ ‵ (lasts T' y.0.0 y.0.3 ws) ∷ j ∷ [])) (Kf (spelled r)))
      → Seq K 𝓛 (tk ∷ (had 𝓛 ms (types_at T'.signature.params y.0.0) y.0.3 y.0.4 ++ (j ∷ locals 𝓛 (e ∷ E) (none ∷ vs) [])))
      (runs C Λ (e ∷ E) (seq (call f xs (place zero [])) return) (at_ret (e ∷ E) Kf))
  returns_owned ended =
      hands {𝓛 = 𝓛} T' c y ms tk is-alive made asked $
      called_owning t fm T' c known y tk is-alive spelled tells φ says os (λ r ws p is.
      land t (from t (stop t)) (init t 4 refl (typed r is)) $ returns t (look t 4 refl) $
      leaves t (‵ ((type_at T'.signature.result y.0.0).own_val r (spelled r ∷ [])) ∷ tk ∷ ‵ (lasts T' y.0.0 y.0.3 ws) ∷ j ∷ []) (some (spelled r) ∷ vs) (ended r ws p is))

  -- The result is a plain value.
  pub returns_call : ((r : Res T'.signature y.0.0) (ws : Lasts T' y.0.0 y.0.3) → φ r ws → Is (type_at T'.signature.result y.0.0) r (spelled r ∷ [])
      → ent 𝓤 (⋆ 𝓛 (tk ∷ ‵ (lasts T' y.0.0 y.0.3 ws) ∷ j ∷ [])) (Kf (spelled r)))
      → Seq K 𝓛 (tk ∷ (had 𝓛 ms (types_at T'.signature.params y.0.0) y.0.3 y.0.4 ++ (j ∷ locals 𝓛 (e ∷ E) (none ∷ vs) [])))
      (runs C Λ (e ∷ E) (seq (call f xs (place zero [])) return) (at_ret (e ∷ E) Kf))
  returns_call ended =
      returns_owned (λ r ws p is.
      let result : Item 𝓤 = ‵ ((type_at T'.signature.result y.0.0).own_val r (spelled r ∷ [])) in
      let others : List (Item 𝓤) = tk ∷ ‵ (lasts T' y.0.0 y.0.3 ws) ∷ j ∷ [] in
      via 𝓤 _ (pop 𝓛 result others) (via 𝓤 _ (snd∗ 𝓤 (mean 𝓛 result) (⋆ 𝓛 others)) (ended r ws p is)))
