-- `passes::along` meets its contract: up towards a place above, and else down.
use native.Mathlib.Omega.{arith}
use Rattle.field.specs.Map.{gap}
use Rattle.regions.proofs.WayLaws.{along_up, along_down}
use Rattle.regions.proofs.passes.along.Goals as goal

pub overflow_add-result : goal.overflow_add-result
unfolding gap
overflow_add-result c = omega arith

pub overflow_sub-result : goal.overflow_sub-result
unfolding gap
overflow_sub-result c = omega arith

pub returns-then-a-b : goal.returns-then-a-b
returns-then-a-b c = along_up c.if-a-b.true c.requires

pub returns-else-a-b : goal.returns-else-a-b
returns-else-a-b c = along_down c.if-a-b.false c.requires
