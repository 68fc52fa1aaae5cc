-- `along::Line::past` meets its contract. The invariant: all places passed have the number.
use Prim.Native.Nat.{◌-◌}
use Rattle.measures.specs.Running.{Past}
use Rattle.measures.proofs.along.Line.past.Given as goal

abbrev pub invariant-loop-k : goal.invariant-loop-k
invariant-loop-k l = Past l.m l.self.end l.self.start l.from l.self.n l.out l.k

abbrev pub decreases-loop-k : goal.decreases-loop-k
decreases-loop-k l = l.self.n - l.k
