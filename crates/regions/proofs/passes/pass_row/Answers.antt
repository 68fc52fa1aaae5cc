-- `passes::pass_row` meets its contract: the next column is on the map and not passed yet, so its
-- mark is still the first sheet's.
use native.Mathlib.Omega.{arith}
use Rattle.field.specs.Map.{gap}
use Rattle.regions.proofs.WalkLaws.{row_lent, row_may, row_gives, row_next, row_end}
use Rattle.regions.proofs.passes.pass_row.Goals as goal

pub along-requires : goal.along-requires
unfolding gap
along-requires g c = omega arith

pub number_of-requires : goal.number_of-requires
number_of-requires g c = (row_lent _ _ _ _ _ c.along.ensures c.requires.1.0 c.loop-k.invariant).to

pub f-mark-requires : goal.f-mark-requires
f-mark-requires g c = row_may _ _ _ _ _ c.along.ensures c.requires.1.0 c.loop-k.invariant c.requires.1.1 c.number_of.ensures.is

pub settle-requires : goal.settle-requires
settle-requires g c = row_lent _ _ _ _ _ c.along.ensures c.requires.1.0 c.loop-k.invariant

pub loop-k-preserved : goal.loop-k-preserved
loop-k-preserved g c =
    row_next _ _ _ _ _ c.along.ensures c.requires.1.0 c.loop-k.invariant _
    (row_gives _ _ _ _ _ c.along.ensures c.requires.1.0 c.loop-k.invariant c.requires.1.1 c.number_of.ensures.is _ c.f-mark.ensures)
    c.settle.ensures

pub returns : goal.returns
unfolding gap
returns g c = row_end _ _ _ _ _ (omega arith) c.loop-k.invariant
