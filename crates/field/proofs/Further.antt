-- Every row of the second table holds of the definitions: each passes its test.
use Rattle.std.specs.Prelude.{◌≡◌, refl, true}
use Rattle.field.specs.Table.{EveryRow}
use Rattle.field.specs.FurtherTable.{further_table}
use Rattle.field.proofs.Workings.TableLaws.{all_pass, all_hold}

further_table_passes : all_pass further_table ≡ true
unfolding all_pass further_table
further_table_passes = refl

-- What the examples leave open.
pub further_rows_hold : EveryRow further_table
further_rows_hold = all_hold further_table further_table_passes
