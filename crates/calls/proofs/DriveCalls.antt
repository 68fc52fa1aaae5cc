-- Region and drive calls between open ends, on a map of document 01's size with fitting sheets and
-- a well-formed list: of their rows only 9 and 10 can apply, and 9 does exactly where there is no
-- shortest drive. A drive that is not refused is one.
use Rattle.std.specs.Prelude.{◌≡◌, List, [], ◌∷◌, ◌↔◌, ◌⊎◌, ℕ, take}
use Rattle.std.proofs.Common.{inl, inr, arith}
use Rattle.field.specs.Refusals.{no_drive}
use Rattle.field.specs.Labels.{Open}
use Rattle.field.specs.Drives.{ShortestDrive, HasDrive}
use Rattle.field.specs.Workings.Sheet.{Draws}
use Rattle.field.proofs.Workings.Labelling.{label_sheet_draws}
use Rattle.field.proofs.Workings.ReachLaws.{has_drive_dec}
use Rattle.field.proofs.Workings.ChooserLaws.{driven_shortest}
use Rattle.calls.specs.Rules
use Rattle.calls.specs.Rules.{LentMap, Sized, OnIt, Formed, RocksOf, ClosedBy, AnEndClosed, Misfit}
use Rattle.calls.specs.RuleLaws.{None, gives_none, holds, on_holds, sheets_fit}
use Rattle.calls.specs.Answers.{LabelsAfter}
use Rattle.calls.specs.Calls.{RegionCall, DriveCall, RouteCall}
use Rattle.calls.specs.Exactly.{region_exactly, drive_exactly, route_exactly}
use Rattle.calls.specs.declared.Drove.{Drove}
use Rattle.calls.specs.DriveCalls.{BetweenOpen}

module _ {m : LentMap} {sx sy dx dy : ℕ} {labels region : List ℕ} (f : BetweenOpen m sx sy dx dy labels region) where
  places : ¬ ((¬ OnIt m sx sy) ⊎ (¬ OnIt m dx dy))
  places (inl n) = n f.from.on
  places (inr n) = n f.to.on

  ends : ¬ AnEndClosed (ClosedBy m) sx sy dx dy
  ends (inl n) = f.from.free n
  ends (inr n) = f.to.free n

  sheets : ¬ Misfit m.width m.height (labels ∷ region ∷ [])
  sheets = sheets_fit m.width m.height labels (region ∷ []) f.labels_fit (sheets_fit m.width m.height region [] f.region_fits (λ n. n))

  -- No row before 9 applies.
  abbrev pub Earlier : Type 0
  Earlier =
      (((((Unit {0} × (¬ ¬ Sized m)) × (¬ Misfit m.width m.height (labels ∷ region ∷ []))) × (¬ ¬ Formed m)) × (¬ ((¬ OnIt m sx sy) ⊎ (¬ OnIt m dx dy))))
      × (¬ AnEndClosed (ClosedBy m) sx sy dx dy))

  pub earlier : Earlier
  earlier = (((((tt, λ n. n f.sides), sheets), λ n. n f.formed), places), ends)

  -- Row 9, where no row before it applies.
  nine : {n : ℕ} → (n ≡ no_drive) ↔ ((Rules.drive_rule m.width m.height (ClosedBy m) sx sy dx dy).applies × Earlier)
      → (n ≡ no_drive) ↔ (¬ HasDrive m.width m.height (ClosedBy m) sx sy dx dy)
  nine k = (λ e. (k.0 e).0.none, λ n. k.1 (record { from = f.from; to = f.to; none = n }, earlier))

  pub region_nine : {labels' region' : List ℕ} {r : ℕ} → RegionCall m sx sy dx dy labels region labels' region' r
      → (r ≡ no_drive) ↔ (¬ HasDrive m.width m.height (ClosedBy m) sx sy dx dy)
  region_nine c = nine (region_exactly c).1.1.1.1.1.0

  pub drive_nine : {route labels' region' route' : List ℕ} {state state' : ℕ} {r : Drove}
      → DriveCall m sx sy dx dy labels region route state labels' region' route' state' r
      → (r.refusal ≡ no_drive) ↔ (¬ HasDrive m.width m.height (ClosedBy m) sx sy dx dy)
  drive_nine c = nine (drive_exactly c).1.1.1.1.1.0

  pub route_nine : {route labels' region' part : List ℕ} {state number state' : ℕ} {from at : ℕ × ℕ}
      → RouteCall m sx sy dx dy labels region route state labels' region' part number state' from at
      → (number ≡ no_drive) ↔ (¬ HasDrive m.width m.height (ClosedBy m) sx sy dx dy)
  route_nine c = nine (route_exactly c).1.1.1.1.1.0

-- Where a drive is not refused, there is a shortest drive from s to d.
module _ (m : LentMap) (sx sy dx dy : ℕ) (labels region route labels' : List ℕ) (n : ℕ)
    (given : Rules.Gives (Rules.drive_table m sx sy dx dy labels region route) n)
    (after : LabelsAfter (RocksOf m) m.width m.height n labels labels') (z : n ≡ 0) where
  abbrev C : ℕ → ℕ → Type 0
  C = ClosedBy m

  passed : None (Rules.drive_table m sx sy dx dy labels region route)
  passed = gives_none (Rules.drive_table m sx sy dx dy labels region route) 0 n (omega arith) given z

  draws : Draws m.width m.height C labels'
  draws = label_sheet_draws (RocksOf m) m.width m.height labels' (after.labelled (λ t. omega arith))

  from_open : Open m.width m.height C sx sy
  from_open = record { on = on_holds (λ n. passed.1.1.1.0 (inl n)); free = λ k. passed.1.1.1.1.0 (inl k) }

  to_open : Open m.width m.height C dx dy
  to_open = record { on = on_holds (λ n. passed.1.1.1.0 (inr n)); free = λ k. passed.1.1.1.1.0 (inr k) }

  pub there_is : HasDrive m.width m.height C sx sy dx dy
  there_is =
      holds (has_drive_dec m.width m.height C labels' draws sx sy dx dy) (λ n. passed.1.1.1.1.1.0 (record { from = from_open; to = to_open; none = n }))

-- And so what it makes is one: at the route's front, or the part that is handed back.
pub drive_shortest : {m : LentMap} {sx sy dx dy : ℕ} {labels region route labels' region' route' : List ℕ} {state state' : ℕ} {r : Drove}
    → DriveCall m sx sy dx dy labels region route state labels' region' route' state' r → r.refusal ≡ 0
    → ShortestDrive m.width m.height (ClosedBy m) sx sy dx dy (take r.length route')
drive_shortest {m} {sx} {sy} {dx} {dy} {labels} {region} {route} {labels'} c z =
    driven_shortest m.width m.height (ClosedBy m) sx sy dx dy
    (there_is m sx sy dx dy labels region route labels' _ c.given c.labels_after z) (c.route_after.driven z)

pub route_shortest : {m : LentMap} {sx sy dx dy : ℕ} {labels region route labels' region' part : List ℕ} {state number state' : ℕ} {from at : ℕ × ℕ}
    → RouteCall m sx sy dx dy labels region route state labels' region' part number state' from at → number ≡ 0
    → ShortestDrive m.width m.height (ClosedBy m) sx sy dx dy part
route_shortest {m} {sx} {sy} {dx} {dy} {labels} {region} {route} {labels'} c z =
    driven_shortest m.width m.height (ClosedBy m) sx sy dx dy
    (there_is m sx sy dx dy labels region route labels' _ c.given c.labels_after z) (c.driven z)
