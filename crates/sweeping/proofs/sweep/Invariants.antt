-- The loop's invariant: what is added, and that the neighbours of the crossings passed are judged.
use Rattle.sweeping.proofs.Laws.Sweeping.{Going}
use Rattle.sweeping.proofs.sweep.Given as goal

abbrev pub invariant-loop-j : goal.invariant-loop-j
invariant-loop-j l = Going l.map.w l.map.h l.lo l.hi l.initial.s l.initial.q l.s l.q l.n l.j
