-- The rows that `put_rows` draws are those of the map, the northmost first.
use Rattle.std.proofs.Common.{◌+◌, ◌-◌}
use Rattle.chart.specs.Drawing.{row_of}
use Rattle.chart.proofs.put_rows.Given as goal

abbrev pub ghost-each_row : goal.ghost-each_row
ghost-each_row a = λ r. row_of a.put.0.cells.now a.put.0.map.w (a.h - (r + 1))
