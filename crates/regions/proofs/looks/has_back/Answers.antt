-- `looks::has_back` meets its contract: its tests are the definition's, in its order.
use native.Mathlib.Omega.{arith}
use Rattle.regions.specs.Passes.{backed}
use Rattle.regions.proofs.looks.has_back.Goals as goal
use Rattle.regions.proofs.looks.has_back.Goals.{then-eq, else-eq}

pub returns-then-east_west : goal.returns-then-east_west
unfolding backed
returns-then-east_west c = elim c.if-eq.branch [ then-eq w ↦ grind arith | else-eq w ↦ grind arith ]

pub returns-else-east_west : goal.returns-else-east_west
unfolding backed
returns-else-east_west c = elim c.if-eq.branch [ then-eq w ↦ grind arith | else-eq w ↦ grind arith ]
