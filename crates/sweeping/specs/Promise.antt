-- The promise of sweeping: from a sheet on which the rocks are stamped to the label sheet and the
-- number of sweeps.
use Rattle.std.specs.Prelude.{List, ℕ}
use Rattle.field.specs.Labels.{LabelSheet}
use Rattle.field.specs.Sweeps.{Sweeps}
use Rattle.rows.specs.Sheets.{Stones}

-- "The number equals the definition's, the last state is the labelling": s is the sheet stamped, t
-- the one handed back.
pub record Sweeping (w h : ℕ) (s t : List ℕ) (n : ℕ) : Type 0 where
  pub sheet : LabelSheet (Stones w h s) w h t
  pub sweeps : Sweeps (Stones w h s) w h n
