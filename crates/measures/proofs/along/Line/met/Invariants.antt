-- `along::Line::met` meets its contract. The invariant: no place passed is closed.
use mathlib.Core.Logic.{◌≢◌}
use Prim.Native.Nat.{ℕ, ◌-◌, ◌<◌, ◌≤◌}
use Rattle.measures.specs.Running.{placed}
use Rattle.measures.proofs.along.Line.met.Given as goal

abbrev pub invariant-loop-k : goal.invariant-loop-k
invariant-loop-k l =
    (l.from ≤ l.k) × (l.k ≤ l.self.n) × ((j : ℕ) → l.from ≤ j → j < l.k → placed l.self.end l.self.start l.out j ≢ 0)

abbrev pub decreases-loop-k : goal.decreases-loop-k
decreases-loop-k l = l.self.n - l.k
