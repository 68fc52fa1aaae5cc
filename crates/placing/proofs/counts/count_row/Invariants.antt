-- `counts::count_row` meets its contract. The invariant: the numbers are those of the crossings
-- passed.
use mathlib.Core.Path.{◌≡◌}
use lib.ListN.{get_or}
use Rattle.placing.specs.Counting.{row_of}
use Rattle.placing.proofs.counts.count_row.Given as goal

abbrev pub invariant-loop-x : goal.invariant-loop-x
invariant-loop-x l = l.p ≡ row_of l.s.cells.now l.g l.s.map.w l.level (get_or l.home.four 0 0) (get_or l.home.four 2 0) l.home.at.x l.y l.x
