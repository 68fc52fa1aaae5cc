-- A table whose rows all pass their tests holds, row by row. To unfold the test of a table is to
-- unfold every working that it computes with.
use Rattle.std.specs.Prelude.{◌≡◌, Bool, true, ◌&&◌, List, [], ◌∷◌}
use Rattle.field.specs.Table.{Row, EveryRow, none, one}
use Rattle.field.specs.Workings.Tests.{and_split}
use Rattle.field.proofs.Workings.RowLaws.{passes_holds}
use Rattle.field.specs.Map.{gap, no_distance, tallest}
use Rattle.field.specs.Labels.{sum_to}
use Rattle.field.specs.Chooser.{drawn, top}
use Rattle.field.specs.Workings.Sheet.{lit, west_of, south_of, around, row, rows_from, sheet}
use Rattle.field.specs.Workings.Closing.{closing, until, sweep, next, marks}
use Rattle.field.specs.Workings.Stamping.{stamp, rock_of, stands}
use Rattle.field.proofs.Workings.Labelling.{labelling, labels_from, alone}
use Rattle.field.proofs.Workings.Counting.{tally}
use Rattle.field.proofs.Workings.Corners.{corner_of, groups_of, every, rectangle_of}
use Rattle.field.specs.Workings.Looking.{lit_along, look, clear_of, distances_of, enough_of, axis_of, open_of, assured_of, hop_to, east_west_of, north_south_of, hop_of}
use Rattle.field.specs.Workings.Reaching.{reach_next, reach, on_way, region_of, east_west_in, north_south_in, chosen_of, drive_of}
use Rattle.field.proofs.Workings.RowTests.{same, rock_sheet, closed_sheet, region_sheet, each_alone, distance_at, same_answer, passes}

unfoldable pub all_pass : List Row → Bool
unfolding gap no_distance tallest sum_to drawn top lit west_of south_of around row rows_from sheet closing until sweep next marks stamp rock_of stands labelling labels_from tally corner_of groups_of every rectangle_of lit_along look clear_of distances_of enough_of axis_of open_of assured_of hop_to east_west_of north_south_of hop_of reach_next reach on_way region_of east_west_in north_south_in chosen_of drive_of same rock_sheet closed_sheet region_sheet alone each_alone distance_at same_answer passes
all_pass [] = true
all_pass (r ∷ rs) = passes r && all_pass rs

pub all_hold : (rs : List Row) → all_pass rs ≡ true → EveryRow rs
unfolding all_pass
all_hold [] e = none
all_hold (r ∷ rs) e = let f = and_split _ _ e in one (passes_holds r f.0) (all_hold rs f.1)
