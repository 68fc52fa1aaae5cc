-- A straight piece of code on the locals of a function that is walked, told as a list of what it
-- does: a slice lent on, a length read, a reference lent on. It is run in one step, by recursion on
-- the list, where what it lends on and reads is there.
use Rattle.std.specs.Prelude.{◌≡◌, Bool, true, List, [], ◌∷◌, ◌++◌, ℕ, ◌<◌, ◌^◌, get_or}
use Rattle.std.proofs.Common.{ap}
use Rattle.std.proofs.Math.Option.{Option, none, some}
use seplogic.Ra.Ura.{Ura}
use mir.Syntax.{Ty, w64, field, deref, place, copy, rv_opd, addr_of, aggregate, Body, seq, assign}
use mir.Val.{Val, vptr, vint, has_ty}
use prog.Wp.{Env, Calls, Loops, spot_of, no_local}
use types.Logic.{Logic}
use types.Kit.{Item, Post, Seq, runs, ◌$◌}
use denote.Slice.{slice_ty}
use Rattle.walks.specs.Frames.{Known, locals}
use Rattle.walks.specs.Places.{keeps, known_at, has, true_T, slice_of, lends_on, reads_length, passes_on}

-- A slice at (b, o), n long, that local s holds is lent on in r, by way of p; its length is read
-- into p; or the reference that local s holds is lent on.
pub data Stmt : Type 0 where
  lend : (s p r b o n : ℕ) (σ τ : Ty) → Stmt
  size : (s p b o n : ℕ) (σ : Ty) → Stmt
  pass : (s p b o : ℕ) (τ : Ty) → Stmt

abbrev pub coded : List Stmt → Body → Body
coded [] rest = rest
coded (lend s p r b o n σ τ ∷ ss) rest =
    seq (assign (place p []) (addr_of (place s (field 0 ∷ deref τ ∷ [])))) (seq (assign (place r []) (aggregate (copy (place p []) ∷ copy (place s (field 1 ∷ [])) ∷ []))) (coded ss rest))
coded (size s p b o n σ ∷ ss) rest = seq (assign (place p []) (rv_opd (copy (place s (field 1 ∷ []))))) (coded ss rest)
coded (pass s p b o τ ∷ ss) rest = seq (assign (place p []) (addr_of (place s (deref τ ∷ [])))) (coded ss rest)

abbrev pub after : List Stmt → Known → Known
after [] vs = vs
after (lend s p r b o n σ τ ∷ ss) vs = after ss (keeps r (slice_of b o n) (keeps p (vptr b o) vs))
after (size s p b o n σ ∷ ss) vs = after ss (keeps p (vint w64 n) vs)
after (pass s p b o τ ∷ ss) vs = after ss (keeps p (vptr b o) vs)

-- What stands in the locals by which a slice is lent on: the type of the one that holds it, and it;
-- the local for the reference, and whether it takes it; and with the reference there, the slice,
-- the reference, the local for the slice made of it, and whether it takes it.
pub record Lending : Type 0 where
  pub type : Ty
  pub slice : Option (Option Val)
  pub for_ref : Option (Option Val)
  pub ref_fits : Bool
  pub slice_then : Option (Option Val)
  pub ref_then : Option (Option Val)
  pub for_slice : Option (Option Val)
  pub slice_fits : Bool

-- And by which a length is read, or a reference lent on: the local that holds it, with its type
-- where that matters, and the local for it.
pub record Reading : Type 0 where
  pub type : Ty
  pub held : Option (Option Val)
  pub room : Option (Option Val)
  pub fits : Bool

module _ {M : Type 1} {𝓤 : Ura M} (𝓛 : Logic 𝓤) (E : Env 𝓤 𝓛.H) where
  open 𝓛 use {H}

  abbrev pub Lends : Known → (s p r b o n : ℕ) → Ty → Type 0
  Lends vs s p r b o n σ =
      let us = keeps p (vptr b o) vs in
      ◌≡◌ {A = Lending} (record {
        type = (get_or E s (no_local 𝓤 H)).0;
        slice = known_at 𝓛 E vs s;
        for_ref = known_at 𝓛 E vs p;
        ref_fits = has_ty (spot_of 𝓤 H E p).0 (vptr b o);
        slice_then = known_at 𝓛 E us s;
        ref_then = known_at 𝓛 E us p;
        for_slice = known_at 𝓛 E us r;
        slice_fits = has_ty (spot_of 𝓤 H E r).0 (slice_of b o n);
      })
      (record {
        type = slice_ty σ;
        slice = some (some (slice_of b o n));
        for_ref = some none;
        ref_fits = true;
        slice_then = some (some (slice_of b o n));
        ref_then = some (some (vptr b o));
        for_slice = some none;
        slice_fits = true;
      })

  abbrev pub Reads : Known → ℕ → ℕ → Ty → Val → Val → Type 0
  Reads vs s p τ u v =
      ◌≡◌ {A = Reading} (record { type = (get_or E s (no_local 𝓤 H)).0; held = known_at 𝓛 E vs s; room = known_at 𝓛 E vs p; fits = has_ty (spot_of 𝓤 H E p).0 v })
      (record { type = τ; held = some (some u); room = some none; fits = true })

  -- A piece of code is sound: what it lends on and reads is there. At given locals each is one
  -- equation, by `refl`, and a length beside it has 64 bits.
  abbrev pub Sound : List Stmt → Known → Type 0
  Sound [] vs = Unit {0}
  Sound (lend s p r b o n σ τ ∷ ss) vs = (Lends vs s p r b o n σ × (n < 2 ^ 64)) × Sound ss (keeps r (slice_of b o n) (keeps p (vptr b o) vs))
  Sound (size s p b o n σ ∷ ss) vs = (Reads vs s p (slice_ty σ) (slice_of b o n) (vint w64 n) × (n < 2 ^ 64)) × Sound ss (keeps p (vint w64 n) vs)
  Sound (pass s p b o τ ∷ ss) vs = Reads vs s p (get_or E s (no_local 𝓤 H)).0 (vptr b o) (vptr b o) × Sound ss (keeps p (vptr b o) vs)

module _ {M : Type 1} {𝓤 : Ura M} {𝓛 : Logic 𝓤} {K : Type 0} (Δ : List (Item 𝓤)) (E : Env 𝓤 𝓛.H) (Γ : List (Item 𝓤))
    {C : Calls 𝓤 𝓛.H} {Λ : Loops 𝓤 𝓛.H} {z : Post 𝓤 𝓛.H} where
  open 𝓛 use {H}

  -- It is run.
  pub straight : K → (ss : List Stmt) (vs : Known) (rest : Body) → Sound 𝓛 E ss vs
      → Seq K 𝓛 (Δ ++ locals 𝓛 E (after ss vs) Γ) (runs C Λ E rest z) → Seq K 𝓛 (Δ ++ locals 𝓛 E vs Γ) (runs C Λ E (coded ss rest) z)
  straight t [] vs rest ok k = k
  straight t (lend s p r b o n σ τ ∷ ss) vs rest ok k =
      let h = ok.0.0 in
      let us = keeps p (vptr b o) vs in
      lends_on Δ E Γ t vs s p r b o n (ap (λ (l : Lending). l.type) h)
      (has 𝓛 E vs s _ (ap (λ (l : Lending). l.slice) h)) (has 𝓛 E vs p _ (ap (λ (l : Lending). l.for_ref) h)) (true_T (ap (λ (l : Lending). l.ref_fits) h), tt)
      (has 𝓛 E us s _ (ap (λ (l : Lending). l.slice_then) h)) (has 𝓛 E us p _ (ap (λ (l : Lending). l.ref_then) h)) (has 𝓛 E us r _ (ap (λ (l : Lending). l.for_slice) h))
      (true_T (ap (λ (l : Lending). l.slice_fits) h), (tt, (record { fits = ok.0.1 }, tt))) $
      straight t ss (keeps r (slice_of b o n) us) rest ok.1 k
  straight t (size s p b o n σ ∷ ss) vs rest ok k =
      let h = ok.0.0 in
      reads_length Δ E Γ t vs s p b o n (ap (λ (l : Reading). l.type) h) (has 𝓛 E vs s _ (ap (λ (l : Reading). l.held) h)) (has 𝓛 E vs p _ (ap (λ (l : Reading). l.room) h))
      (true_T (ap (λ (l : Reading). l.fits) h), record { fits = ok.0.1 }) $ straight t ss (keeps p (vint w64 n) vs) rest ok.1 k
  straight t (pass s p b o τ ∷ ss) vs rest ok k =
      let h = ok.0 in
      passes_on Δ E Γ t vs s p b o (has 𝓛 E vs s _ (ap (λ (l : Reading). l.held) h)) (has 𝓛 E vs p _ (ap (λ (l : Reading). l.room) h)) (true_T (ap (λ (l : Reading). l.fits) h), tt) $
      straight t ss (keeps p (vptr b o) vs) rest ok.1 k

-- What the two calls find: whether the operands of the first can be read, and what it is handed;
-- the local to which it answers, and whether it takes the answer; and then, the result not being
-- there yet, the same of the second.
pub record TwoCalls : Type 0 where
  pub first_read : Bool
  pub first_handed : List Val
  pub for_answer : Option (Option Val)
  pub answer_fits : Bool
  pub then_known : Known
  pub second_read : Bool
  pub second_handed : List Val

-- The same of one call.
pub record OneCall : Type 0 where
  pub read : Bool
  pub handed : List Val
  pub for_answer : Option (Option Val)
  pub answer_fits : Bool
