-- The loop's invariant: the queue has the rocks among the bytes passed.
use Rattle.sweeping.specs.Steps.{Gathering}
use Rattle.sweeping.proofs.gather.Given as goal

abbrev pub invariant-loop-i : goal.invariant-loop-i
invariant-loop-i l = Gathering l.i l.s l.q l.n
