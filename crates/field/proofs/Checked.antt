-- What is proved of the check of a drawn list (request 01), for any set C of closed crossings.
use Rattle.std.specs.Prelude.{◌≡◌, List, ◌↔◌, ℕ}
use Rattle.std.proofs.Common.{sym, ◌∙◌, subst}
use Rattle.field.specs.Checks.{Finding}
use Rattle.field.specs.Map.{On, OnMap}
use Rattle.field.specs.Rule.{Gives, gives_one}
use Rattle.field.specs.Reasons.{no_fault}
use Rattle.field.specs.Drives.{ShortestDrive, HasDrive, InRegion}
use Rattle.field.specs.Chooser.{Driven}
use Rattle.field.specs.Checks.{reasons, Has, AtFault, Accepted, Finds, accepted, at_fault}
use Rattle.field.proofs.Workings.Marks.{decided, decided_draws}
use Rattle.field.proofs.Workings.GridLaws.{Order, less, same, more, order}
use Rattle.field.proofs.Workings.ChooserLaws.{driven_shortest}
use Rattle.field.specs.Workings.Checking.{check_of}
use Rattle.field.proofs.Workings.AcceptLaws.{accepted_shortest}
use Rattle.field.proofs.Workings.ShortestLaws.{shortest_accepted}
use Rattle.field.proofs.Workings.CheckLaws.{checked}

module _ (w h : ℕ) (C : ℕ → ℕ → Type 0) (sx sy dx dy : ℕ) (l : List ℕ) where
  -- "a checker that accepts a drawn list exactly if it is a shortest drive from s to d as document
  -- 01 defines it"
  pub accepted_exactly : Accepted w h C sx sy dx dy l ↔ ShortestDrive w h C sx sy dx dy l
  accepted_exactly = (accepted_shortest w h C sx sy dx dy l, shortest_accepted w h C sx sy dx dy l)

  -- A list at fault is not accepted.
  fault_refused : {p r : ℕ} → AtFault w h C sx sy dx dy l p r → ¬ Accepted w h C sx sy dx dy l
  fault_refused {p} {r} f a = f.some (gives_one (reasons w h C sx sy dx dy l p) r no_fault f.why (a p))

  pub finds_exactly : {f : Finding} → Finds w h C sx sy dx dy l f → (f.reason ≡ no_fault ↔ ShortestDrive w h C sx sy dx dy l)
  finds_exactly (accepted a e i) = ((λ k. accepted_exactly.0 a), λ d. e)
  finds_exactly (at_fault f) = ((λ k. absurd (f.some k)), λ d. absurd (fault_refused f (accepted_exactly.1 d)))

  -- A list has no two faults: one position, one reason.
  pub at_fault_one : {p q r t : ℕ} → AtFault w h C sx sy dx dy l p r → AtFault w h C sx sy dx dy l q t → (p ≡ q) × (r ≡ t)
  at_fault_one {p} {q} {r} {t} f g = go (order p q)
    where
      go : Order p q → (p ≡ q) × (r ≡ t)
      go (less b) = absurd (f.some (gives_one (reasons w h C sx sy dx dy l p) r no_fault f.why (g.before p b)))
      go (same e) =
          (e, gives_one (reasons w h C sx sy dx dy l q) r t (subst (λ (i : ℕ). Gives (reasons w h C sx sy dx dy l i) r) e f.why) g.why)
      go (more b) = absurd (g.some (gives_one (reasons w h C sx sy dx dy l q) t no_fault g.why (f.before q b)))

  -- The checker finds one thing of a list.
  pub finds_one : {f g : Finding} → Finds w h C sx sy dx dy l f → Finds w h C sx sy dx dy l g → f ≡ g
  finds_one (accepted a e i) (accepted b k j) = λ n. record { reason = (e ∙ sym k) n; position = (i ∙ sym j) n }
  finds_one (accepted a e i) (at_fault g) = absurd (fault_refused g a)
  finds_one (at_fault f) (accepted b k j) = absurd (fault_refused f b)
  finds_one (at_fault f) (at_fault g) = let e = at_fault_one f g in λ n. record { reason = e.1 n; position = e.0 n }

  -- "an accepted list is right": each of its crossings is in the region.
  pub accepted_region : Accepted w h C sx sy dx dy l → (p x y : ℕ) → Has w h l p x y → InRegion w h C sx sy dx dy x y
  accepted_region a p x y k =
      record { on = k.on; route = l; shortest = accepted_exactly.0 a; place = p; in_route = k.in_list; is_there = k.is }

  -- "every drive that our own layer makes is accepted", whatever state it was drawn from.
  pub driven_accepted : {z z' : ℕ} → HasDrive w h C sx sy dx dy → Driven w h C sx sy dx dy sx sy z l z' → Accepted w h C sx sy dx dy l
  driven_accepted v d = accepted_exactly.1 (driven_shortest w h C sx sy dx dy v d)

-- Every list is accepted or at fault.
pub finds_some : {w h : ℕ} {C : ℕ → ℕ → Type 0} → OnMap w h C → ((x y : ℕ) → Dec (C x y)) → (sx sy dx dy : ℕ) → On w h sx sy → (l : List ℕ)
    → (f : Finding) × Finds w h C sx sy dx dy l f
finds_some {w} {h} {C} m d sx sy dx dy o l =
    let s = decided w h d in
    (check_of s w h sx sy dx dy l, checked w h C sx sy dx dy l s (decided_draws w h C m d) o)
