-- `passes::pass` meets its contract: the next row is on the map, and its marks are still the first
-- sheet's.
use native.Mathlib.Omega.{arith}
use Rattle.std.proofs.Common.{rules}
use Rattle.field.specs.Map.{gap}
use Rattle.regions.proofs.WalkLaws.{rows_lent, rows_told, rows_next, rows_end}
use Rattle.regions.proofs.passes.pass.Goals as goal

pub along-row-requires : goal.along-row-requires
unfolding gap
along-row-requires g c = omega arith

pub loop-k-preserved : goal.loop-k-preserved
loop-k-preserved g c = rows_next _ _ _ _ _ _ c.along-row.ensures c.loop-k.invariant c.pass_row.ensures

pub returns : goal.returns
unfolding gap
returns g c = rows_end _ _ _ _ _ _ (omega arith) c.loop-k.invariant

pub pass_row-requires : goal.pass_row-requires
pass_row-requires g c κs within = (
  search rules,
  (
    rows_lent _ _ _ _ _ _ c.along-row.ensures c.loop-k.invariant c.requires.1.0,
    rows_told _ _ _ _ _ _ c.along-row.ensures c.loop-k.invariant c.requires.1.1,
  ),
)
