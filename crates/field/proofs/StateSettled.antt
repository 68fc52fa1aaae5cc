-- Every row of the table of states holds of the definitions: each passes its test.
use Rattle.std.specs.Prelude.{◌≡◌, refl, true}
use Rattle.field.specs.Table.{EveryRow}
use Rattle.field.specs.StateTable.{state_table}
use Rattle.field.proofs.Workings.TableLaws.{all_pass, all_hold}

state_table_passes : all_pass state_table ≡ true
unfolding all_pass state_table
state_table_passes = refl

-- The rows of request 13.
pub state_rows_hold : EveryRow state_table
state_rows_hold = all_hold state_table state_table_passes
