-- `look::look` meets its contract, whatever the way. The invariant: nothing is marked on the first
-- k hops.
use Rattle.distances.specs.Looking.{towards}
use Rattle.distances.proofs.Looking.{Bare}
use Rattle.distances.proofs.look.look.Given as goal

abbrev pub invariant-loop-k : goal.invariant-loop-k
invariant-loop-k l = Bare l.s.cells.now l.s.map.w l.s.map.h (towards l.way) l.p.x l.p.y l.k
