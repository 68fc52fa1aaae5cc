-- `go` meets its contract: between two turns the program stands as a turn wants it, and what is
-- left to do falls.
use Rattle.depots.specs.States.{Buffers, Stands, left}
use Rattle.depots.proofs.go.Given as goal

abbrev pub invariant-loop-s : goal.invariant-loop-s
invariant-loop-s l = Buffers l.src l.out × Stands l.s

abbrev pub decreases-loop-s : goal.decreases-loop-s
decreases-loop-s l = left l.s
