-- Sweeping has one outcome: two that its promise allows are equal, the sheet and the number.
use Rattle.std.specs.Prelude.{◌≡◌, List, ℕ}
use Rattle.field.proofs.SweepLaws.{sweeps_one}
use Rattle.field.proofs.Workings.Labelling.{label_sheet_one}
use Rattle.rows.specs.Sheets.{Stones}
use Rattle.sweeping.specs.Promise.{Sweeping}

pub sweeping_one_outcome : (w h : ℕ) (s t u : List ℕ) (n m : ℕ) → Sweeping w h s t n → Sweeping w h s u m → (t ≡ u) × (n ≡ m)
sweeping_one_outcome w h s t u n m p q =
    (label_sheet_one (Stones w h s) w h t u p.sheet q.sheet, sweeps_one (Stones w h s) w h n m p.sweeps q.sweeps)
