-- `chooser::choose` meets its contract: a hop is made only along a row or a column that has a
-- candidate.
use Rattle.std.proofs.Common.{sym, ◌∙◌}
use Rattle.regions.proofs.LookLaws.{east_west_tells, north_south_tells}
use Rattle.drives.proofs.ChoiceLaws.{taken_row, taken_column, chose_row, chose_column}
use Rattle.drives.proofs.chooser.choose.Goals as goal

pub hop-requires : goal.hop-requires
hop-requires c =
    ((east_west_tells _ _ _ _ _ _).1 (sym c.east_west-row.ensures ∙ taken_row _ _ _ (sym c.takes_row.ensures ∙ c.if-takes_row.true))).0

pub returns-then-takes_row : goal.returns-then-takes_row
returns-then-takes_row c =
    chose_row _ _ _ _ _ _ _ _ c.east_west-row.ensures c.north_south-column.ensures c.draw-state.ensures (sym c.takes_row.ensures ∙ c.if-takes_row.true)
    c.hop.ensures

pub hop-requires-else-takes_row : goal.hop-requires-else-takes_row
hop-requires-else-takes_row c =
    ((north_south_tells _ _ _ _ _ _).1
    (sym c.north_south-column.ensures
    ∙ taken_column _ _ _ (sym c.takes_row.ensures ∙ c.if-takes_row.false) (rw (c.east_west-row.ensures, c.north_south-column.ensures) c.requires.some))).0

pub returns-else-takes_row : goal.returns-else-takes_row
returns-else-takes_row c =
    chose_column _ _ _ _ _ _ _ _ c.east_west-row.ensures c.north_south-column.ensures c.draw-state.ensures (sym c.takes_row.ensures ∙ c.if-takes_row.false)
    c.hop-else-takes_row.ensures
