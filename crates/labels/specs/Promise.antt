-- The labelling's promise: from a sheet on which the rocks are stamped to the label sheet and its
-- three numbers.
use Rattle.std.specs.Prelude.{List, ℕ}
use Rattle.field.specs.Labels.{Closed, Shut, RockOn, LabelSheet, Count}
use Rattle.field.specs.Groups.{Groups}
pub use Rattle.rows.specs.Sheets.{Stamped, Stones}
use Rattle.field.specs.declared.Labelled.{Labelled}

-- "Labelling hands back the numbers of rocks' crossings, shut crossings and groups": s is the sheet
-- stamped, t the one handed back.
pub record Labels (w h : ℕ) (s t : List ℕ) (r : Labelled) : Type 0 where
  pub sheet : LabelSheet (Stones w h s) w h t
  pub rocks : Count w h (RockOn (Stones w h s) w h) r.rocks
  pub shut : Count w h (Shut (Stones w h s) w h) r.shut
  pub groups : Groups w h (Closed (Stones w h s) w h) r.groups
