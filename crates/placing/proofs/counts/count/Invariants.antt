-- `counts::count` meets its contract. The invariant: the numbers are those of the rows passed.
use mathlib.Core.Path.{◌≡◌}
use Rattle.placing.specs.Counting.{count_of}
use Rattle.placing.proofs.counts.count.Given as goal

abbrev pub invariant-loop-y : goal.invariant-loop-y
invariant-loop-y l = l.p ≡ count_of l.s.cells.now l.g l.s.map.w l.home.four l.home.at.x l.home.at.y l.y
