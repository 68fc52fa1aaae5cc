-- How it is shown what a call leaves in lent memory: by the number given, one of the cases is the
-- one to be shown, and the others cannot be.
use Rattle.std.specs.Prelude.{◌≡◌, refl, List, ℕ, ◌*◌, ◌≤◌, length, get_or}
use Rattle.std.proofs.Common.{arith}
use Rattle.field.specs.Refusals.{end_closed, no_drive}
use Rattle.field.specs.Labels.{LabelSheet}
use Rattle.field.specs.Distances.{Way, DistanceSheet}
use Rattle.field.specs.Drives.{RegionSheet}
use Rattle.calls.specs.Answers.{Early, LabelsAfter, DistancesAfter, RegionAfter, RouteAfter}
use Rattle.calls.specs.LinesCall.{RegionSpared, LinesRegionAfter, JoinedAfter}

module _ {R : ℕ → ℕ → Type 0} {w h n : ℕ} {labels : List ℕ} where
  pub labels_kept : Early n → LabelsAfter R w h n labels labels
  labels_kept e = record { kept = λ _. refl; labelled = λ f. absurd (f e) }

  pub labels_made : ¬ Early n → {labels' : List ℕ} → LabelSheet R w h labels' → LabelsAfter R w h n labels labels'
  labels_made f l = record { kept = λ e. absurd (f e); labelled = λ _. l }

module _ {w h : ℕ} {C : ℕ → ℕ → Type 0} {way : Way} {n : ℕ} {sheet : List ℕ} where
  pub distances_kept : ¬ (n ≡ 0) → DistancesAfter w h C way n sheet sheet
  distances_kept f = record { kept = λ _. refl; filled = λ z. absurd (f z) }

  pub distances_filled : n ≡ 0 → {sheet' : List ℕ} → DistanceSheet w h C way sheet' → DistancesAfter w h C way n sheet sheet'
  distances_filled z d = record { kept = λ f. absurd (f z); filled = λ _. d }

module _ {w h : ℕ} {C : ℕ → ℕ → Type 0} {sx sy dx dy n : ℕ} {region : List ℕ} where
  pub region_kept : (1 ≤ n) × (n ≤ end_closed) → RegionAfter w h C sx sy dx dy n region region
  region_kept b =
      record {
        kept = λ _. refl;
        size = λ e. absurd (omega (arith, b.1));
        zeros = λ e. absurd (omega (arith, b.1));
        made = λ f. absurd (f (b.0, omega (arith, b.1)));
      }

  pub region_zeros : n ≡ no_drive → {region' : List ℕ} → length region' ≡ h * w → ((i : ℕ) → get_or region' i 0 ≡ 0)
      → RegionAfter w h C sx sy dx dy n region region'
  region_zeros e size zeros =
      record {
        kept = λ k. absurd (omega (arith, k.1));
        size = λ _. size;
        zeros = λ _. zeros;
        made = λ f. absurd (f (omega arith, omega arith));
      }

  pub region_made : ¬ ((1 ≤ n) × (n ≤ no_drive)) → {region' : List ℕ} → RegionSheet w h C sx sy dx dy region' → RegionAfter w h C sx sy dx dy n region region'
  region_made f r =
      record {
        kept = λ k. absurd (f (k.0, omega (arith, k.1)));
        size = λ e. absurd (f (omega arith, omega arith));
        zeros = λ e. absurd (f (omega arith, omega arith));
        made = λ _. r;
      }

pub route_kept : {w h : ℕ} {C : ℕ → ℕ → Type 0} {sx sy dx dy n state : ℕ} {route : List ℕ} → ¬ (n ≡ 0)
    → RouteAfter w h C sx sy dx dy n 0 route state route state
route_kept f =
    record {
      none = λ _. refl;
      kept = λ _. refl;
      still = λ _. refl;
      long = λ z. absurd (f z);
      driven = λ z. absurd (f z);
      rest = λ z. absurd (f z);
    }

-- The same of the drive by way of crossing lines.
module _ {w h : ℕ} {C : ℕ → ℕ → Type 0} {sx sy dx dy n : ℕ} {region : List ℕ} where
  pub lines_region_kept : RegionSpared n → LinesRegionAfter w h C sx sy dx dy n region region
  lines_region_kept k = record { kept = λ _. refl; made = λ f. absurd (f k) }

  pub lines_region_made : ¬ RegionSpared n → {region' : List ℕ} → RegionSheet w h C sx sy dx dy region' → LinesRegionAfter w h C sx sy dx dy n region region'
  lines_region_made f r = record { kept = λ k. absurd (f k); made = λ _. r }

pub joined_kept : {w h : ℕ} {C : ℕ → ℕ → Type 0} {sx sy dx dy n state : ℕ} {route : List ℕ} → ¬ (n ≡ 0)
    → JoinedAfter w h C sx sy dx dy n 0 route state route state
joined_kept f =
    record {
      none = λ _. refl;
      kept = λ _. refl;
      still = λ _. refl;
      long = λ z. absurd (f z);
      driven = λ z. absurd (f z);
      rest = λ z. absurd (f z);
    }
