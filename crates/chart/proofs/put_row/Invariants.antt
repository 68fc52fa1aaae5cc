-- `put_row`: after x turns the first x signs of the row stand at the front of its part.
use Rattle.std.proofs.Common.{◌*◌}
use Rattle.packing.specs.Packing.{pieces}
use Rattle.packing.proofs.Filling.{Filled}
use Rattle.chart.specs.Drawing.{sign_at}
use Rattle.chart.proofs.put_row.Given as goal

abbrev pub invariant-loop-x : goal.invariant-loop-x
invariant-loop-x l = Filled (pieces l.x (sign_at l.s.cells.now (l.y * l.s.map.w))) l.x l.initial.out l.out
