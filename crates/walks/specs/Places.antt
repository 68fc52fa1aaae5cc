-- The locals of a function that is walked, by their numbers, whatever stands before them in the
-- context: a number is a place among the entries, so each step on a local is a step on that entry.
-- Operands are read off what is known of the locals, by computation.
use Rattle.std.specs.Prelude.{◌≡◌, refl, Bool, true, false, List, [], ◌∷◌, ◌++◌, ℕ, zero, suc, ◌^◌, T, ltb, get_or}
use Rattle.std.proofs.Common.{sym, ap, subst, ◌∙◌, arith}
use Rattle.std.proofs.Math.Option.{Option, none, some}
use seplogic.Ra.Ura.{Ura}
use base.Fraction.{full_share}
use mir.Syntax.{Ty, w64, field, deref, place, Opd as Operand, copy, int, int_neg, int_big, float, opd_true, opd_false, opd_unit, ptr_const, size_of, align_of, num_of, fn_addr, vtable, rv_opd, addr_of, aggregate, Body, seq, assign}
use mir.Val.{Val, vptr, vint, vbool, vunit, has_ty, WT, bits}
use base.Fml.{fat}
use prog.Wp.{Env, Calls, Loops, spot_of, no_local}
use types.Logic.{Logic}
use types.Kit.{Item, ‵, nth, put, Goal, Post, Step, runs, lands}
use types.Run.{Opds, stop, hop, from, addr, look, init, land, lit, true_lit, false_lit, no_more, and_then, of_opd, assigns}
use denote.Slice.{slice_ty, slice_val}
use Rattle.walks.specs.Frames.{Known, first, rest, cell, cells, locals}
use Rattle.walks.specs.Steps.{var, field_of_lem, relends, sets}

-- A local is given the value v.
abbrev pub keeps : ℕ → Val → Known → Known
keeps zero v vs = some v ∷ rest vs
keeps (suc i) v vs = first vs ∷ keeps i v (rest vs)

abbrev pub both : Bool → Bool → Bool
both true b = b
both false b = false

pub both_hold : (a b : Bool) → T (both a b) → T a × T b
both_hold true b h = (tt, h)
both_hold false b h = absurd h

abbrev is_held : Option Val → Bool
is_held none = false
is_held (some v) = true

abbrev held : Option Val → Val
held none = vunit
held (some v) = v

held_some : (u : Option Val) → T (is_held u) → u ≡ some (held u)
held_some none h = absurd h
held_some (some v) h = refl

pub true_T : {b : Bool} → b ≡ true → T b
true_T {b} e = subst (λ (c : Bool). T c) (sym e) tt

-- The machine value of a slice of n elements that begins at (b, o).
abbrev pub slice_of : ℕ → ℕ → ℕ → Val
slice_of b o n = slice_val (b, o) n

module _ {M : Type 1} {𝓤 : Ura M} (𝓛 : Logic 𝓤) where
  open 𝓛 use {H}

  -- Local i is there, and u is what is known of it.
  abbrev pub Has : Env 𝓤 H → Known → ℕ → Option Val → Type 0
  Has [] vs i u = ⊥
  Has (e ∷ E) vs zero u = first vs ≡ u
  Has (e ∷ E) vs (suc i) u = Has E (rest vs) i u

  -- The same, looked up: none where there is no local i.
  abbrev pub known_at : Env 𝓤 H → Known → ℕ → Option (Option Val)
  known_at [] vs i = none
  known_at (e ∷ E) vs zero = some (first vs)
  known_at (e ∷ E) vs (suc i) = known_at E (rest vs) i

  pub has : (E : Env 𝓤 H) (vs : Known) (i : ℕ) (u : Option Val) → known_at E vs i ≡ some u → Has E vs i u
  has [] vs i u h = let z : ◌≡◌ {A = ℕ} 0 1 = cc in omega arith
  has (e ∷ E) vs zero u h = cc
  has (e ∷ E) vs (suc i) u h = has E (rest vs) i u h

  abbrev holds : Env 𝓤 H → Known → ℕ → Bool
  holds [] vs i = false
  holds (e ∷ E) vs zero = is_held (first vs)
  holds (e ∷ E) vs (suc i) = holds E (rest vs) i

  abbrev value : Env 𝓤 H → Known → ℕ → Val
  value [] vs i = vunit
  value (e ∷ E) vs zero = held (first vs)
  value (e ∷ E) vs (suc i) = value E (rest vs) i

  has_value : (E : Env 𝓤 H) (vs : Known) (i : ℕ) → T (holds E vs i) → Has E vs i (some (value E vs i))
  has_value [] vs i h = absurd h
  has_value (e ∷ E) vs zero h = held_some (first vs) h
  has_value (e ∷ E) vs (suc i) h = has_value E (rest vs) i h

  -- Operands that are read off what is known of the locals, or are numbers or truths: whether each
  -- is there, and their values.
  abbrev pub readable : Env 𝓤 H → Known → List Operand → Bool
  readable E vs [] = true
  readable E vs (copy (place i []) ∷ xs) = both (holds E vs i) (readable E vs xs)
  readable E vs (copy (place i (s ∷ st)) ∷ xs) = false
  readable E vs (int w n ∷ xs) = both (ltb n (2 ^ bits w)) (readable E vs xs)
  readable E vs (int_neg w k ∷ xs) = false
  readable E vs (int_big w k ∷ xs) = false
  readable E vs (float f k ∷ xs) = false
  readable E vs (opd_true ∷ xs) = readable E vs xs
  readable E vs (opd_false ∷ xs) = readable E vs xs
  readable E vs (opd_unit ∷ xs) = false
  readable E vs (ptr_const k ∷ xs) = false
  readable E vs (size_of τ ∷ xs) = false
  readable E vs (align_of τ ∷ xs) = false
  readable E vs (num_of w τ ∷ xs) = false
  readable E vs (fn_addr f s ∷ xs) = false
  readable E vs (vtable τ ss ∷ xs) = false

  abbrev pub values : Env 𝓤 H → Known → List Operand → List Val
  values E vs [] = []
  values E vs (copy (place i st) ∷ xs) = value E vs i ∷ values E vs xs
  values E vs (int w n ∷ xs) = vint w n ∷ values E vs xs
  values E vs (int_neg w k ∷ xs) = vunit ∷ values E vs xs
  values E vs (int_big w k ∷ xs) = vunit ∷ values E vs xs
  values E vs (float f k ∷ xs) = vunit ∷ values E vs xs
  values E vs (opd_true ∷ xs) = vbool true ∷ values E vs xs
  values E vs (opd_false ∷ xs) = vbool false ∷ values E vs xs
  values E vs (opd_unit ∷ xs) = vunit ∷ values E vs xs
  values E vs (ptr_const k ∷ xs) = vunit ∷ values E vs xs
  values E vs (size_of τ ∷ xs) = vunit ∷ values E vs xs
  values E vs (align_of τ ∷ xs) = vunit ∷ values E vs xs
  values E vs (num_of w τ ∷ xs) = vunit ∷ values E vs xs
  values E vs (fn_addr f s ∷ xs) = vunit ∷ values E vs xs
  values E vs (vtable τ ss ∷ xs) = vunit ∷ values E vs xs

  -- What stands before, and then local i.
  abbrev past : List (Item 𝓤) → ℕ → ℕ
  past [] i = i
  past (d ∷ Δ) i = suc (past Δ i)

  nth_past : (Δ Γ : List (Item 𝓤)) (i : ℕ) → nth 𝓛 (past Δ i) (Δ ++ Γ) ≡ nth 𝓛 i Γ
  nth_past [] Γ i = refl
  nth_past (d ∷ Δ) Γ i = nth_past Δ Γ i

  put_past : (Δ Γ : List (Item 𝓤)) (i : ℕ) (k : Item 𝓤) → put 𝓛 (past Δ i) k (Δ ++ Γ) ≡ Δ ++ put 𝓛 i k Γ
  put_past [] Γ i k = refl
  put_past (d ∷ Δ) Γ i k = ap (λ (Θ : List (Item 𝓤)). d ∷ Θ) (put_past Δ Γ i k)

  nth_cell : (E : Env 𝓤 H) (vs : Known) (i : ℕ) (u : Option Val) (Γ : List (Item 𝓤)) → Has E vs i u → nth 𝓛 i (cells 𝓛 E vs Γ) ≡ cell 𝓛 (get_or E i (no_local 𝓤 H)) u
  nth_cell [] vs i u Γ h = absurd h
  nth_cell (e ∷ E) vs zero u Γ h = ap (cell 𝓛 e) h
  nth_cell (e ∷ E) vs (suc i) u Γ h = nth_cell E (rest vs) i u Γ h

  put_cell : (E : Env 𝓤 H) (vs : Known) (i : ℕ) (u : Option Val) (v : Val) (Γ : List (Item 𝓤)) → Has E vs i u
      → put 𝓛 i (cell 𝓛 (get_or E i (no_local 𝓤 H)) (some v)) (cells 𝓛 E vs Γ) ≡ cells 𝓛 E (keeps i v vs) Γ
  put_cell [] vs i u v Γ h = absurd h
  put_cell (e ∷ E) vs zero u v Γ h = refl
  put_cell (e ∷ E) vs (suc i) u v Γ h = ap (λ (Θ : List (Item 𝓤)). cell 𝓛 e (first vs) ∷ Θ) (put_cell E (rest vs) i u v Γ h)

  pub nth_local : (Δ : List (Item 𝓤)) (E : Env 𝓤 H) (vs : Known) (i : ℕ) (u : Option Val) (Γ : List (Item 𝓤)) → Has E vs i u
      → nth 𝓛 (past Δ i) (Δ ++ locals 𝓛 E vs Γ) ≡ cell 𝓛 (get_or E i (no_local 𝓤 H)) u
  nth_local Δ E vs i u Γ h = nth_past Δ (locals 𝓛 E vs Γ) i ∙ nth_cell E vs i u _ h

  put_local : (Δ : List (Item 𝓤)) (E : Env 𝓤 H) (vs : Known) (i : ℕ) (u : Option Val) (v : Val) (Γ : List (Item 𝓤)) → Has E vs i u
      → put 𝓛 (past Δ i) (cell 𝓛 (get_or E i (no_local 𝓤 H)) (some v)) (Δ ++ locals 𝓛 E vs Γ) ≡ Δ ++ locals 𝓛 E (keeps i v vs) Γ
  put_local Δ E vs i u v Γ h = put_past Δ (locals 𝓛 E vs Γ) i _ ∙ ap (λ (Θ : List (Item 𝓤)). Δ ++ Θ) (put_cell E vs i u v _ h)

module _ {M : Type 1} {𝓤 : Ura M} {𝓛 : Logic 𝓤} {K : Type 0} where
  open 𝓛 use {H}

  module _ (Δ : List (Item 𝓤)) (E : Env 𝓤 H) (Γ : List (Item 𝓤)) where
    pub operands : K → (vs : Known) (xs : List Operand) → T (readable 𝓛 E vs xs) → Opds K 𝓛 (Δ ++ locals 𝓛 E vs Γ) E xs (values 𝓛 E vs xs)
    operands t vs [] h = no_more t
    operands t vs (copy (place i []) ∷ xs) h =
        let hs = both_hold (holds 𝓛 E vs i) (readable 𝓛 E vs xs) h in
        and_then t (var t (past 𝓛 Δ i) (nth_local 𝓛 Δ E vs i _ Γ (has_value 𝓛 E vs i hs.0))) (operands t vs xs hs.1)
    operands t vs (copy (place i (s ∷ st)) ∷ xs) h = absurd h
    operands t vs (int w n ∷ xs) h = let hs = both_hold (ltb n (2 ^ bits w)) (readable 𝓛 E vs xs) h in and_then t (lit t hs.0) (operands t vs xs hs.1)
    operands t vs (int_neg w k ∷ xs) h = absurd h
    operands t vs (int_big w k ∷ xs) h = absurd h
    operands t vs (float f k ∷ xs) h = absurd h
    operands t vs (opd_true ∷ xs) h = and_then t (true_lit t) (operands t vs xs h)
    operands t vs (opd_false ∷ xs) h = and_then t (false_lit t) (operands t vs xs h)
    operands t vs (opd_unit ∷ xs) h = absurd h
    operands t vs (ptr_const k ∷ xs) h = absurd h
    operands t vs (size_of τ ∷ xs) h = absurd h
    operands t vs (align_of τ ∷ xs) h = absurd h
    operands t vs (num_of w τ ∷ xs) h = absurd h
    operands t vs (fn_addr f s ∷ xs) h = absurd h
    operands t vs (vtable τ ss ∷ xs) h = absurd h

    module _ {C : Calls 𝓤 H} {Λ : Loops 𝓤 H} {z : Post 𝓤 H} where
      -- A call's result is stored in a local that has no value yet.
      pub lands_in : K → (vs : Known) (i : ℕ) (v : Val) {rest : Body} → Has 𝓛 E vs i none → T (has_ty (spot_of 𝓤 H E i).0 v) × WT v
          → Step K 𝓛 (Δ ++ locals 𝓛 E (keeps i v vs) Γ) (runs C Λ E rest z) (Δ ++ locals 𝓛 E vs Γ) (lands C Λ E (place i []) v rest z)
      lands_in t vs i v {rest} h wt =
          subst (λ (Θ : List (Item 𝓤)). Step K 𝓛 Θ (runs C Λ E rest z) (Δ ++ locals 𝓛 E vs Γ) (lands C Λ E (place i []) v rest z)) (put_local 𝓛 Δ E vs i none v Γ h)
          (land t (from t (stop t)) (init t (past 𝓛 Δ i) (nth_local 𝓛 Δ E vs i none Γ h) wt))

      -- A slice that local s holds is lent on: a reference to its first element, in p, and with its
      -- length a slice again, in r.
      pub lends_on : K → (vs : Known) (s p r : ℕ) (b o n : ℕ) {σ τ : Ty} {rest : Body} → (get_or E s (no_local 𝓤 H)).0 ≡ slice_ty σ
          → Has 𝓛 E vs s (some (slice_of b o n)) → Has 𝓛 E vs p none → T (has_ty (spot_of 𝓤 H E p).0 (vptr b o)) × WT (vptr b o)
          → Has 𝓛 E (keeps p (vptr b o) vs) s (some (slice_of b o n)) → Has 𝓛 E (keeps p (vptr b o) vs) p (some (vptr b o)) → Has 𝓛 E (keeps p (vptr b o) vs) r none
          → T (has_ty (spot_of 𝓤 H E r).0 (slice_of b o n)) × WT (slice_of b o n)
          → Step K 𝓛 (Δ ++ locals 𝓛 E (keeps r (slice_of b o n) (keeps p (vptr b o) vs)) Γ) (runs C Λ E rest z)
          (Δ ++ locals 𝓛 E vs Γ) (runs C Λ E (seq (assign (place p []) (addr_of (place s (field 0 ∷ deref τ ∷ [])))) (seq (assign (place r []) (aggregate (copy (place p []) ∷ copy (place s (field 1 ∷ [])) ∷ []))) rest)) z)
      lends_on t vs s p r b o n {σ} {τ} {rest} ty hs hp wp hs' hp' hr wr =
          let spot : spot_of 𝓤 H E s ≡ (slice_ty σ, (spot_of 𝓤 H E s).1, zero) = ap (λ (τ' : Ty). (τ', (spot_of 𝓤 H E s).1, zero)) ty in
          let us = keeps p (vptr b o) vs in
          let goal : Goal 𝓤 H = runs C Λ E (seq (assign (place p []) (addr_of (place s (field 0 ∷ deref τ ∷ [])))) (seq (assign (place r []) (aggregate (copy (place p []) ∷ copy (place s (field 1 ∷ [])) ∷ []))) rest)) z in
          let at_p = put_local 𝓛 Δ E vs p none (vptr b o) Γ hp in
          let typed : ℕ → Item 𝓤 → Type 2 = λ i it. nth 𝓛 i (put 𝓛 (past 𝓛 Δ p) (cell 𝓛 (get_or E p (no_local 𝓤 H)) (some (vptr b o))) (Δ ++ locals 𝓛 E vs Γ)) ≡ it in
          let was : (i : ℕ) (u : Option Val) → Has 𝓛 E us i u → typed (past 𝓛 Δ i) (cell 𝓛 (get_or E i (no_local 𝓤 H)) u) =
          λ i u h. ap (nth 𝓛 (past 𝓛 Δ i)) at_p ∙ nth_local 𝓛 Δ E us i u Γ h in
          let at-s : (τ' : Ty) → Item 𝓤 = λ τ'. ‵ (fat full_share τ' (spot_of 𝓤 H E s).1 zero (slice_of b o n)) in
          subst (λ (Θ : List (Item 𝓤)). Step K 𝓛 Θ (runs C Λ E rest z) (Δ ++ locals 𝓛 E vs Γ) goal)
          (ap (put 𝓛 (past 𝓛 Δ r) (cell 𝓛 (get_or E r (no_local 𝓤 H)) (some (slice_of b o n)))) at_p ∙ put_local 𝓛 Δ E us r none (slice_of b o n) Γ hr)
          (relends t (past 𝓛 Δ s) (past 𝓛 Δ p) (past 𝓛 Δ r)
          (nth_local 𝓛 Δ E vs s _ Γ hs ∙ ap at-s ty) spot refl refl (nth_local 𝓛 Δ E vs p none Γ hp) wp
          (was s _ hs' ∙ ap at-s ty) (was p _ hp') (was r none hr) wr)

      -- The length of the slice that local s holds is read into p.
      pub reads_length : K → (vs : Known) (s p : ℕ) (b o n : ℕ) {σ : Ty} {rest : Body} → (get_or E s (no_local 𝓤 H)).0 ≡ slice_ty σ
          → Has 𝓛 E vs s (some (slice_of b o n)) → Has 𝓛 E vs p none → T (has_ty (spot_of 𝓤 H E p).0 (vint w64 n)) × WT (vint w64 n)
          → Step K 𝓛 (Δ ++ locals 𝓛 E (keeps p (vint w64 n) vs) Γ) (runs C Λ E rest z)
          (Δ ++ locals 𝓛 E vs Γ) (runs C Λ E (seq (assign (place p []) (rv_opd (copy (place s (field 1 ∷ []))))) rest) z)
      reads_length t vs s p b o n {σ} {rest} ty hs hp wp =
          let at-s : (τ' : Ty) → Item 𝓤 = λ τ'. ‵ (fat full_share τ' (spot_of 𝓤 H E s).1 zero (slice_of b o n)) in
          subst (λ (Θ : List (Item 𝓤)). Step K 𝓛 Θ (runs C Λ E rest z) (Δ ++ locals 𝓛 E vs Γ) (runs C Λ E (seq (assign (place p []) (rv_opd (copy (place s (field 1 ∷ []))))) rest) z))
          (put_local 𝓛 Δ E vs p none (vint w64 n) Γ hp)
          (sets t (of_opd t (field_of_lem t (past 𝓛 Δ s) 1 (nth_local 𝓛 Δ E vs s _ Γ hs ∙ ap at-s ty) (ap (λ (τ' : Ty). (τ', (spot_of 𝓤 H E s).1, zero)) ty) refl))
          (past 𝓛 Δ p) (nth_local 𝓛 Δ E vs p none Γ hp) wp)

      -- The reference that local s holds is lent on, in p.
      pub passes_on : K → (vs : Known) (s p : ℕ) (b o : ℕ) {τ : Ty} {rest : Body} → Has 𝓛 E vs s (some (vptr b o)) → Has 𝓛 E vs p none
          → T (has_ty (spot_of 𝓤 H E p).0 (vptr b o)) × WT (vptr b o)
          → Step K 𝓛 (Δ ++ locals 𝓛 E (keeps p (vptr b o) vs) Γ) (runs C Λ E rest z)
          (Δ ++ locals 𝓛 E vs Γ) (runs C Λ E (seq (assign (place p []) (addr_of (place s (deref τ ∷ [])))) rest) z)
      passes_on t vs s p b o {τ} {rest} hs hp wp =
          subst (λ (Θ : List (Item 𝓤)). Step K 𝓛 Θ (runs C Λ E rest z) (Δ ++ locals 𝓛 E vs Γ) (runs C Λ E (seq (assign (place p []) (addr_of (place s (deref τ ∷ [])))) rest) z))
          (put_local 𝓛 Δ E vs p none (vptr b o) Γ hp)
          (assigns t (addr t (from t (hop t (look t (past 𝓛 Δ s) (nth_local 𝓛 Δ E vs s _ Γ hs)) (stop t)))) (from t (stop t)) (init t (past 𝓛 Δ p) (nth_local 𝓛 Δ E vs p none Γ hp) wp))
