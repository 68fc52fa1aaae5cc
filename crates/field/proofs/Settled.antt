-- Every settled example of document 01 that is marked * holds of the definitions: each row of the
-- table passes its test.
use Rattle.std.specs.Prelude.{◌≡◌, refl, true}
use Rattle.field.specs.Table.{EveryRow, table}
use Rattle.field.proofs.Workings.TableLaws.{all_pass, all_hold}

table_passes : all_pass table ≡ true
unfolding all_pass table
table_passes = refl

-- The settled examples 1 to 11.
pub every_row_holds : EveryRow table
every_row_holds = all_hold table table_passes
