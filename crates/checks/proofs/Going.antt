-- Going along a drawn list: what is left to be found from its k-th number on, after (x, y), is what
-- the check of the whole list after s finds.
use mathlib.Core.Path.{◌≡◌, refl, sym, ap, subst, ◌∙◌}
use mathlib.Core.Bool.{true, false, ◌&&◌}
use mathlib.Core.List.{List, [], ◌∷◌}
use Prim.Native.Nat.{ℕ, ◌+◌, ◌-◌, ◌<◌}
use native.Mathlib.Numerals.{add-one}
use native.Mathlib.Omega.{arith}
use lib.Dec.{eqb}
use lib.ListN.{length, get_or, drop, length-drop}
use lib.Seq.{drop-cons}
use Rattle.std.specs.Prelude.{Result, Ok, Err, MatchResult}
use Rattle.std.specs.Result.{IsErrAnd}
use Rattle.field.specs.declared.Place.{Place}
use Rattle.field.specs.declared.reasons.Reason.{Reason}
use Rattle.field.specs.declared.reasons.Reason.TheVariants.{WrongStart, OffTheMap, IsClosed, NotANeighbour, NotNearer, EndedEarly, WentOn}
use Rattle.field.specs.declared.reasons.Fault.{Fault}
use Rattle.field.specs.Workings.Checking.{Step}
use borrow.Author.Tests.{ne_eqb}
use Rattle.checks.specs.Told.{step_told, finding_told}
use Rattle.field.specs.Map.{On}
use Rattle.field.specs.Reasons.{no_fault, ended_early, went_on, reason_number}
use Rattle.field.specs.Workings.Checking.{found, step_of, check_from}
use Rattle.field.proofs.Workings.StepLaws.{step_on}

pub record Onward (s : List ℕ) (w h sx sy dx dy : ℕ) (l : List ℕ) (x y k : ℕ) : Type 0 where
  pub on : On w h x y
  pub left : check_from s w h dx dy (k + 1) x y (drop k l) ≡ check_from s w h dx dy 1 sx sy l

-- Every reason has a number.
some_reason : (r : Reason) → ¬ (reason_number r ≡ no_fault)
some_reason WrongStart e = omega arith
some_reason OffTheMap e = omega arith
some_reason IsClosed e = omega arith
some_reason NotANeighbour e = omega arith
some_reason NotNearer e = omega arith
some_reason EndedEarly e = omega arith
some_reason WentOn e = omega arith

module _ {s : List ℕ} {w h sx sy dx dy : ℕ} {l : List ℕ} {x y k : ℕ} (o : Onward s w h sx sy dx dy l x y k) where
  -- The list ends here.
  module _ (b : k ≡ length l) where
    nothing : drop k l ≡ []
    nothing = go (drop k l) (length-drop k l)
      where
        go : (m : List ℕ) → length m ≡ length l - k → m ≡ []
        go [] e = refl
        go (n ∷ m) e = absurd (omega arith)

    pub onward_end : true ≡ (eqb x dx && eqb y dy) → found no_fault 0 ≡ check_from s w h dx dy 1 sx sy l
    unfolding check_from
    onward_end t = rw (nothing, ← t) at o.left

    pub onward_short : false ≡ (eqb x dx && eqb y dy) → found ended_early (length l + 1) ≡ check_from s w h dx dy 1 sx sy l
    unfolding check_from
    onward_short t = rw (← b) (rw (nothing, ← t) at o.left)

  -- The list has a number here.
  module _ (b : k < length l) where
    more : drop k l ≡ get_or l k 0 ∷ drop (k + 1) l
    more = drop-cons l k 0 b ∙ ap (λ (i : ℕ). get_or l k 0 ∷ drop i l) (sym (add-one k))

    pub onward_after : true ≡ (eqb x dx && eqb y dy) → found went_on (k + 1) ≡ check_from s w h dx dy 1 sx sy l
    unfolding check_from
    onward_after t = rw (more, ← t) at o.left

    -- The step from here is told by t, and by r with its position.
    module _ (n : false ≡ (eqb x dx && eqb y dy)) (t : Result Place Reason) {r : Result Place Fault} {Q : Reason → Fault → Type 0}
        (sure : (e : Reason) (f : Fault) → Q e f → f ≡ record { reason = e; position = k + 1 })
        (m : MatchResult t (λ p. r ≡ Ok p) (λ e. IsErrAnd r (Q e))) (e : step_told t ≡ step_of s w h dx dy x y (get_or l k 0)) where
      pub onward_fault : {f : Fault} → r ≡ Err f → finding_told (Err f) ≡ check_from s w h dx dy 1 sx sy l
      unfolding check_from
      onward_fault {f} q = go t m e
        where
          go : (u : Result Place Reason) → MatchResult u (λ p. r ≡ Ok p) (λ e. IsErrAnd r (Q e)) → step_told u ≡ step_of s w h dx dy x y (get_or l k 0)
              → finding_told (Err f) ≡ check_from s w h dx dy 1 sx sy l
          go (Ok p) a b = cc
          go (Err z) a b = rw (sure z f (rw q at a)) (rw (more, ← n, ← b, ne_eqb (reason_number z) no_fault (some_reason z)) at o.left)

      pub onward_next : {p : Place} → r ≡ Ok p → Onward s w h sx sy dx dy l p.x p.y (k + 1)
      unfolding check_from
      onward_next {p} q = go t m e
        where
          go : (u : Result Place Reason) → MatchResult u (λ p. r ≡ Ok p) (λ e. IsErrAnd r (Q e)) → step_told u ≡ step_of s w h dx dy x y (get_or l k 0)
              → Onward s w h sx sy dx dy l p.x p.y (k + 1)
          go (Ok z) a b = let same : z ≡ p = cc in
              rw (← same) (record {
                on = subst (λ (v : Step). On w h v.x v.y) (sym b) (step_on s w h dx dy x y (get_or l k 0) o.on (sym (ap (λ (v : Step). v.reason) b)));
                left = rw (more, ← n, ← b) at o.left;
              })
          go (Err z) a b = absurd (rw q at a)
