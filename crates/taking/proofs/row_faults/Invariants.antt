-- `row_faults` meets its contract: the loop keeps Counted, and the last crossing is counted after
-- it.
use mathlib.Core.Path.{◌≡◌}
use Rattle.taking.specs.Faults.{west_in}
use Rattle.taking.proofs.Counting.{Counted}
use Rattle.taking.proofs.row_faults.Given as goal

abbrev pub invariant-loop-x : goal.invariant-loop-x
invariant-loop-x l = Counted l.south l.here l.north l.faults l.x × (l.west ≡ west_in l.here l.x)
