-- The loop's invariant: what is set is reached, and a jump of 2 ^ k places goes along a stretch of
-- as many.
use Rattle.std.proofs.Common.{◌^◌}
use Rattle.closing.specs.Steps.{Spread}
use Rattle.closing.proofs.Laws.Spreading.{East, West}
use Rattle.closing.proofs.spread.Given as goal

abbrev pub invariant-loop-k : goal.invariant-loop-k
invariant-loop-k l = Spread l.v l.p l.g × East l.v l.p (2 ^ l.k) l.east × West l.v l.p (2 ^ l.k) l.west
