-- `along::Line::run` meets its contract. The invariant: the places passed have their running
-- numbers, and the last of them is at hand.
use Rattle.measures.proofs.Runs.{RunningFrom}
use Rattle.measures.proofs.along.Line.run.Given as goal

abbrev pub invariant-loop-k : goal.invariant-loop-k
invariant-loop-k l = RunningFrom l.self.end l.self.start l.from l.self.n l.initial.out l.out l.last l.k
