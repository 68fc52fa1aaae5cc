-- A call in a walk, whole: the callee's promise is taken apart, and its result stands for the
-- machine value that it returned.
use Rattle.std.specs.Prelude.{◌≡◌, List, [], ◌∷◌}
use Rattle.std.proofs.Common.{sym, ap, subst}
use seplogic.Ra.Ura.{Ura}
use mir.Syntax.{Callee, Place, Opd as Operand, Body, seq, call}
use mir.Val.{Val}
use base.Logic.{SProp, ent, sep, emp, id⊢, via, mono∗, mono_l, mono_r, emp∗, comm∗}
use base.Fml.{Lft, Share}
use prog.Wp.{Env, Calls, Loops}
use types.Logic.{Logic, sem}
use contract.Monad.{fact}
use sound.WpLaws.{FmC}
use types.Kit.{Item, ‵, raw, some, later, ◌⊛◌, mean, Post, Seq, runs, lands, use1, recast, await, pick, split, move, drop, ◌$◌}
use types.Run.{Opds}
use denote.RattleType.{RattleType, Denots, Valss, owns}
use denote.Laws.{Is, Tells, shows, Ises, Makess, Are, owns_make}
use denote.Signature.{type_at, types_at}
use denote.Steps.{heard, peeks, only}
use denote.Triple.Statement.{Triple}
use denote.Triple.Call.{calls_at}
use denote.Triple.Entry.{Res, alive}
use denote.Triple.Spec.{triple_of}
use denote.Triple.Clauses.{Ended, Clauses, Lasts, at_exit, lasts, ensured, closing}

-- What a callee asks is had for nothing, where its parameters are plain values and it borrows
-- nothing.
pub pays : {M : Type 1} {𝓤 : Ura M} (𝓛 : Logic 𝓤) (T : Ended) (c : Clauses 𝓤 T) (y : (triple_of 𝓛 T.signature (closing 𝓛 T c)).Ghost)
    → ent 𝓤 (emp 𝓤) (alive 𝓛 T.signature y.0.0 y.0.1)
    → Makess 𝓛 (types_at T.signature.params y.0.0) (Ises (types_at T.signature.params y.0.0))
    → Are (types_at T.signature.params y.0.0) (Ises (types_at T.signature.params y.0.0)) y.0.3 y.0.4
    → ent 𝓤 (emp 𝓤) ((c y.0.0 y.0.3).requires y.1)
    → ent 𝓤 (emp 𝓤) ((triple_of 𝓛 T.signature (closing 𝓛 T c)).pre y)
pays {𝓤 = 𝓤} 𝓛 T c y tokens makes are asked =
    via 𝓤 _ (emp∗ 𝓤 (emp 𝓤)) (mono∗ 𝓤 (via 𝓤 _ (emp∗ 𝓤 (emp 𝓤)) (mono∗ 𝓤 tokens
    (owns_make 𝓛 (types_at T.signature.params y.0.0) (Ises (types_at T.signature.params y.0.0)) makes y.0.3 y.0.4 are))) asked)

-- The same where its first parameter alone is borrowed, for its one lifetime, and the others are
-- plain values.
pub pays_lent : {M : Type 1} {𝓤 : Ura M} (𝓛 : Logic 𝓤) (κ : Lft) (q : Share) (R : RattleType) (x : R.Denot) (vs : List Val) (Rs : List RattleType) (a : Denots Rs) (vss : Valss Rs)
    (asks : SProp 𝓤) → Makess 𝓛 Rs (Ises Rs) → Are Rs (Ises Rs) a vss → ent 𝓤 (emp 𝓤) asks
    → ent 𝓤 (sep 𝓤 (𝓛.A.lft κ q) (sem 𝓛 (R.own_val x vs))) (sep 𝓤 (sep 𝓤 (sep 𝓤 (𝓛.A.lft κ q) (emp 𝓤)) (sem 𝓛 (owns (R ∷ Rs) (x, a) (vs, vss)))) asks)
pays_lent {𝓤 = 𝓤} 𝓛 κ q R x vs Rs a vss asks makes are asked =
    via 𝓤 _ (add 𝓤 (sep 𝓤 (𝓛.A.lft κ q) (sem 𝓛 (R.own_val x vs))) asked)
    (mono_l 𝓤 asks (mono∗ 𝓤 (add 𝓤 (𝓛.A.lft κ q) (id⊢ 𝓤 (emp 𝓤))) (add 𝓤 (sem 𝓛 (R.own_val x vs)) (owns_make 𝓛 Rs (Ises Rs) makes a vss are))))
  where
    add : {M : Type 1} (𝓤 : Ura M) (P : SProp 𝓤) {Q : SProp 𝓤} → ent 𝓤 (emp 𝓤) Q → ent 𝓤 P (sep 𝓤 P Q)
    add 𝓤 P h = via 𝓤 _ (emp∗ 𝓤 P) (via 𝓤 _ (comm∗ 𝓤 (emp 𝓤) P) (mono_r 𝓤 P h))

module _ {M : Type 1} {𝓤 : Ura M} {𝓛 : Logic 𝓤} {K : Type 0} {Γ : List (Item 𝓤)} where
  open 𝓛 use {H}

  -- The call of a function with the clauses c, at y: its lifetimes, tokens, arguments and their
  -- machine values. `back` is what comes back of the tokens. `spelled` writes a result as a machine
  -- value, and φ is what the callee promises of its result and of the last values of what it was
  -- lent.
  module _ {E : Env 𝓤 H} {C : Calls 𝓤 H} {Λ : Loops 𝓤 H} {q : Post 𝓤 H} {f : Callee} {xs : List Operand} {d : Place} {rest : Body} (t : K) (fm : FmC 𝓤 H 𝓛.laws C)
      (T : Ended) (c : Clauses 𝓤 T) (known : Triple 𝓤 (C f) (triple_of 𝓛 T.signature (closing 𝓛 T c))) (y : (triple_of 𝓛 T.signature (closing 𝓛 T c)).Ghost)
      (back : Item 𝓤) (e : mean 𝓛 back ≡ alive 𝓛 T.signature y.0.0 y.0.1)
      (spelled : Res T.signature y.0.0 → Val) (tells : Tells (type_at T.signature.result y.0.0) (Is (type_at T.signature.result y.0.0)) (λ r. spelled r ∷ []))
      (φ : Res T.signature y.0.0 → Lasts T y.0.0 y.0.3 → Type 0)
      (says : (r : Res T.signature y.0.0) (ws : Lasts T y.0.0 y.0.3)
      → (c y.0.0 y.0.3).ensures y.1 r (at_exit T y.0.0 y.0.3 ws) ≡ fact 𝓤 (φ r ws))
      (os : Opds K 𝓛 (raw ((triple_of 𝓛 T.signature (closing 𝓛 T c)).pre y) ∷ Γ) E xs ((triple_of 𝓛 T.signature (closing 𝓛 T c)).args y)) where
    -- The result is owned, as a part of a slice that is handed back is, and stays at hand.
    pub called_owning : ((r : Res T.signature y.0.0) (ws : Lasts T y.0.0 y.0.3) → φ r ws → Is (type_at T.signature.result y.0.0) r (spelled r ∷ [])
        → Seq K 𝓛 (‵ ((type_at T.signature.result y.0.0).own_val r (spelled r ∷ [])) ∷ back ∷ ‵ (lasts T y.0.0 y.0.3 ws) ∷ Γ) (lands C Λ E d (spelled r) rest q))
        → Seq K 𝓛 (raw ((triple_of 𝓛 T.signature (closing 𝓛 T c)).pre y) ∷ Γ) (runs C Λ E (seq (call f xs d) rest) q)
    called_owning k =
        calls_at t fm (triple_of 𝓛 T.signature (closing 𝓛 T c)) known y os (λ v.
        use1 𝓛 (later (some (λ (r : Res T.signature y.0.0). (raw (alive 𝓛 T.signature y.0.0 y.0.1) ⊛ ‵ ((type_at T.signature.result y.0.0).own_val r (v ∷ []))) ⊛ raw (ensured 𝓛 T c y.0.0 y.0.3 y.1 r)))) (id⊢ 𝓤 _) $ await t tt $ pick t (λ r.
        split t $ move t (1 ∷ []) $ use1 𝓛 (some (λ (ws : Lasts T y.0.0 y.0.3). ‵ (lasts T y.0.0 y.0.3 ws) ⊛ raw ((c y.0.0 y.0.3).ensures y.1 r (at_exit T y.0.0 y.0.3 ws)))) (id⊢ 𝓤 _) $ pick t (λ ws.
        split t $ move t (1 ∷ []) $ recast 𝓛 (raw (fact 𝓤 (φ r ws))) (says r ws) $ heard t (φ r ws) (λ p. move t (1 ∷ []) $ split t $ recast 𝓛 back (sym e) $ move t (1 ∷ []) $
        peeks t (type_at T.signature.result y.0.0) (Is (type_at T.signature.result y.0.0)) (shows 𝓛 (type_at T.signature.result y.0.0)) r (v ∷ []) (λ is.
        let told : v ∷ [] ≡ spelled r ∷ [] = tells r (v ∷ []) is in
        subst (λ (u : Val). Seq K 𝓛 (‵ ((type_at T.signature.result y.0.0).own_val r (u ∷ [])) ∷ back ∷ ‵ (lasts T y.0.0 y.0.3 ws) ∷ Γ) (lands C Λ E d u rest q)) (ap only (sym told))
        (k r ws p (subst (Is (type_at T.signature.result y.0.0) r) told is)))))))

    -- The result is a plain value.
    pub called : ((r : Res T.signature y.0.0) (ws : Lasts T y.0.0 y.0.3) → φ r ws → Is (type_at T.signature.result y.0.0) r (spelled r ∷ [])
        → Seq K 𝓛 (back ∷ ‵ (lasts T y.0.0 y.0.3 ws) ∷ Γ) (lands C Λ E d (spelled r) rest q))
        → Seq K 𝓛 (raw ((triple_of 𝓛 T.signature (closing 𝓛 T c)).pre y) ∷ Γ) (runs C Λ E (seq (call f xs d) rest) q)
    called k = called_owning (λ r ws p is. drop t $ k r ws p is)
