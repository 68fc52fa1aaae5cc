-- The loop's invariant: the part up to j is shut.
use Rattle.std.proofs.Common.{◌≤◌}
use Rattle.sweeping.specs.Steps.{Settled}
use Rattle.sweeping.proofs.settle.Given as goal

abbrev pub invariant-loop-j : goal.invariant-loop-j
invariant-loop-j l = (l.j ≤ l.hi) × Settled l.lo l.j l.initial.s l.q l.s
