-- The rows that `write_rows` has written are those of the map, the northmost first.
use Rattle.std.proofs.Common.{◌+◌, ◌-◌}
use Rattle.packing.specs.Packing.{row_of}
use Rattle.packing.proofs.write_rows.Given as goal

abbrev pub ghost-each_row : goal.ghost-each_row
ghost-each_row a = λ r. row_of a.put.0.now a.put.1 (a.h - (r + 1))
