-- `each_row` meets its contract: after r turns the first r rows stand at the front.
use Rattle.std.proofs.Common.{◌≡◌, ◌*◌, take}
use Rattle.packing.specs.Packing.{pieces}
use Rattle.packing.proofs.each_row.Given as goal

abbrev pub invariant-loop-r : goal.invariant-loop-r
invariant-loop-r g l = take (l.r * l.row) l.out ≡ pieces l.r g.rows
