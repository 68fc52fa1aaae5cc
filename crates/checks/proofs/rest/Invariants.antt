-- The invariant: what is left to be found from the k-th number on is what the whole rest finds.
use Rattle.checks.proofs.Going.{Onward}
use Rattle.checks.proofs.rest.Given as goal

abbrev pub invariant-loop-k : goal.invariant-loop-k
invariant-loop-k l = Onward l.s.cells.now l.s.map.w l.s.map.h l.fn.from.x l.fn.from.y l.d.x l.d.y l.drawn l.p.x l.p.y l.k
