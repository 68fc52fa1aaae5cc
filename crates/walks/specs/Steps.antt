-- Single statements of a walk, in short. A local is named by its entry in the context, and its
-- fields by their numbers.
use Rattle.std.specs.Prelude.{◌≡◌, List, [], ◌∷◌, ℕ, zero, ◌+◌, T}
use Rattle.std.proofs.Common.{sym, subst}
use Rattle.std.proofs.Math.Option.{some}
use seplogic.Ra.Ura.{Ura}
use base.Fraction.{full_share}
use mir.Syntax.{Sym, Ty, Tys, ty_struct, field, deref, place, copy, Rv as RValue, addr_of, aggregate, Body, seq, assign}
use mir.Fields.{get_v, set_v}
use mir.Val.{Val, Vals, vstruct, vcons, vnil, vptr, has_ty, WT}
use base.Fml.{Share, fat, froom}
use prog.Memory.{field_at}
use prog.Wp.{Env, Calls, Loops, Spot, spot_of}
use types.Logic.{Logic}
use types.Kit.{Item, ‵, nth, put, Post, Step, step, runs, ◌$◌}
use types.Run.{Opd, Rv, Walks, look, init, store, stop, hop, fld, from, load, addr, and_then, no_more, assigns}
use types.Part.{Part, whole, sub, look_in, agg}

module _ {M : Type 1} {𝓤 : Ura M} {𝓛 : Logic 𝓤} {K : Type 0} {Γ : List (Item 𝓤)} {E : Env 𝓤 𝓛.H} where
  open 𝓛 use {H}

  -- A local's value, at entry n.
  pub var : K → (n : ℕ) {i : ℕ} {q : Share} {v : Val} → nth 𝓛 n Γ ≡ ‵ (fat q (spot_of 𝓤 H E i).0 (spot_of 𝓤 H E i).1 zero v) → Opd K 𝓛 Γ E (copy (place i [])) v
  var t n e = load t (from t (stop t)) (look t n e)

  module _ {C : Calls 𝓤 H} {Λ : Loops 𝓤 H} {z : Post 𝓤 H} {i : ℕ} {rv : RValue} {v : Val} {rest : Body} where
    -- A local that has no value yet is given one, or one that has is given another.
    pub sets : K → Rv K 𝓛 Γ E rv v → (n : ℕ) → nth 𝓛 n Γ ≡ ‵ (froom (spot_of 𝓤 H E i).0 (spot_of 𝓤 H E i).1 zero) → T (has_ty (spot_of 𝓤 H E i).0 v) × WT v
        → Step K 𝓛 (put 𝓛 n (‵ (fat full_share (spot_of 𝓤 H E i).0 (spot_of 𝓤 H E i).1 zero v)) Γ) (runs C Λ E rest z) Γ (runs C Λ E (seq (assign (place i []) rv) rest) z)
    sets t r n e wt = assigns t r (from t (stop t)) (init t n e wt)

    pub resets : K → Rv K 𝓛 Γ E rv v → (n : ℕ) {u : Val} → nth 𝓛 n Γ ≡ ‵ (fat full_share (spot_of 𝓤 H E i).0 (spot_of 𝓤 H E i).1 zero u) → T (has_ty (spot_of 𝓤 H E i).0 v) × WT v
        → Step K 𝓛 (put 𝓛 n (‵ (fat full_share (spot_of 𝓤 H E i).0 (spot_of 𝓤 H E i).1 zero v)) Γ) (runs C Λ E rest z) Γ (runs C Λ E (seq (assign (place i []) rv) rest) z)
    resets t r n e wt = assigns t r (from t (stop t)) (store t n e wt)

  -- Field k of a local that holds a struct, at entry n.
  pub field_of_lem : K → (n k : ℕ) {i : ℕ} {q : Share} {ν : Sym} {τs : Tys} {b : ℕ} {vs : Vals} {τ : Ty} {d : ℕ} → nth 𝓛 n Γ ≡ ‵ (fat q (ty_struct ν τs) b zero (vstruct vs))
      → spot_of 𝓤 H E i ≡ (ty_struct ν τs, b, zero) → field_at zero τs k ≡ some (τ, d) → Opd K 𝓛 Γ E (copy (place i (field k ∷ []))) (get_v vs k)
  field_of_lem t n k {q = q} {ν = ν} {τs = τs} {b = b} {vs = vs} {τ = τ} {d = d} e s f =
      load t (from t (subst (λ (sp : Spot 𝓤 H). Walks K 𝓛 Γ E sp (field k ∷ []) (τ, b, zero + d)) (sym s) (fld t f (stop t))))
      (look_in t n (subst (λ (j : Item 𝓤). Part K 𝓛 j q τ b (zero + d) (get_v vs k) (λ u. ‵ (fat q (ty_struct ν τs) b zero (vstruct (set_v vs k u))))) (sym e) (sub t k f (whole t))))

module _ {M : Type 1} {𝓤 : Ura M} {𝓛 : Logic 𝓤} {K : Type 0} {Γ : List (Item 𝓤)} {E : Env 𝓤 𝓛.H} {C : Calls 𝓤 𝓛.H} {Λ : Loops 𝓤 𝓛.H} {z : Post 𝓤 𝓛.H} where
  open 𝓛 use {H}

  -- A slice that the local at entry n holds is lent on: a reference to its first element, at entry
  -- i, and with its length a slice again, at entry j.
  pub relends : K → (n i j : ℕ) {s p r : ℕ} {q : Share} {ν : Sym} {τs : Tys} {b c o : ℕ} {len : Val} {σ σ' τ : Ty} {d d' : ℕ} {rest : Body}
      → nth 𝓛 n Γ ≡ ‵ (fat q (ty_struct ν τs) b zero (vstruct (vcons (vptr c o) (vcons len vnil)))) → spot_of 𝓤 H E s ≡ (ty_struct ν τs, b, zero)
      → field_at zero τs 0 ≡ some (σ, d) → field_at zero τs 1 ≡ some (σ', d')
      → nth 𝓛 i Γ ≡ ‵ (froom (spot_of 𝓤 H E p).0 (spot_of 𝓤 H E p).1 zero) → T (has_ty (spot_of 𝓤 H E p).0 (vptr c o)) × WT (vptr c o)
      → nth 𝓛 n (put 𝓛 i (‵ (fat full_share (spot_of 𝓤 H E p).0 (spot_of 𝓤 H E p).1 zero (vptr c o))) Γ) ≡ ‵ (fat q (ty_struct ν τs) b zero (vstruct (vcons (vptr c o) (vcons len vnil))))
      → nth 𝓛 i (put 𝓛 i (‵ (fat full_share (spot_of 𝓤 H E p).0 (spot_of 𝓤 H E p).1 zero (vptr c o))) Γ) ≡ ‵ (fat full_share (spot_of 𝓤 H E p).0 (spot_of 𝓤 H E p).1 zero (vptr c o))
      → nth 𝓛 j (put 𝓛 i (‵ (fat full_share (spot_of 𝓤 H E p).0 (spot_of 𝓤 H E p).1 zero (vptr c o))) Γ) ≡ ‵ (froom (spot_of 𝓤 H E r).0 (spot_of 𝓤 H E r).1 zero)
      → T (has_ty (spot_of 𝓤 H E r).0 (vstruct (vcons (vptr c o) (vcons len vnil)))) × WT (vstruct (vcons (vptr c o) (vcons len vnil)))
      → Step K 𝓛 (put 𝓛 j (‵ (fat full_share (spot_of 𝓤 H E r).0 (spot_of 𝓤 H E r).1 zero (vstruct (vcons (vptr c o) (vcons len vnil)))))
      (put 𝓛 i (‵ (fat full_share (spot_of 𝓤 H E p).0 (spot_of 𝓤 H E p).1 zero (vptr c o))) Γ)) (runs C Λ E rest z)
      Γ (runs C Λ E (seq (assign (place p []) (addr_of (place s (field 0 ∷ deref τ ∷ [])))) (seq (assign (place r []) (aggregate (copy (place p []) ∷ copy (place s (field 1 ∷ [])) ∷ []))) rest)) z)
  relends t n i j {s} {q = q} {ν = ν} {τs = τs} {b = b} {c = c} {o = o} {len = len} {σ = σ} {τ = τ} {d = d} at_n at-s first second at_i wt-i at-n' at-i' at_j wt-j = step (λ k.
      assigns t (addr t (from t (subst (λ (sp : Spot 𝓤 H). Walks K 𝓛 Γ E sp (field 0 ∷ deref τ ∷ []) (τ, c, o)) (sym at-s)
      (fld t first (hop t (look_in t n (subst (λ (it : Item 𝓤). Part K 𝓛 it q σ b (zero + d) (vptr c o) (λ u. ‵ (fat q (ty_struct ν τs) b zero (vstruct (set_v (vcons (vptr c o) (vcons len vnil)) 0 u))))) (sym at_n) (sub t 0 first (whole t)))) (stop t))))))
      (from t (stop t)) (init t i at_i wt-i) $
      sets t (agg t (and_then t (var t i at-i') (and_then t (field_of_lem t n 1 at-n' at-s second) (no_more t)))) j at_j wt-j $ k)
