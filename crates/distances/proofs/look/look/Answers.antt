-- `look::look` meets its contract, whatever the way: a mark met ends the look, and past the edge
-- there is none.
use native.Mathlib.Omega.{arith}
use Rattle.field.specs.Map.{side, no_distance}
use Rattle.distances.proofs.Looking.{bare_more, bare_met, bare_edge}
use Rattle.distances.proofs.look.look.Goals as goal

pub overflow_cast-result : goal.overflow_cast-result
unfolding side
overflow_cast-result c = omega arith

pub returns-then-at-ne0 : goal.returns-then-at-ne0
returns-then-at-ne0 c =
    bare_met c.loop-k.invariant _ _ c.after.ensures.along c.at.ensures c.after.ensures.on c.if-at-ne0.true

pub returns-else-at-ne0 : goal.returns-else-at-ne0
unfolding no_distance
returns-else-at-ne0 c =
    bare_edge (bare_more c.loop-k.invariant _ _ c.after.ensures.along c.at.ensures c.if-at-ne0.false) c.room-k-end.ensures (omega arith)
