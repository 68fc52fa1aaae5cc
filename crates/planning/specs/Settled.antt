-- Every row of the table of the planners' program holds: its text is computed, map by map.
use Rattle.std.specs.Prelude.{◌≡◌, refl, Bool, true, ◌&&◌, List, [], ◌∷◌}
use Rattle.std.proofs.Common.{subst}
use Rattle.std.proofs.Math.Decide.{dec_le, dec_lt, ℕ_discrete}
use Rattle.field.specs.Map.{side, most_markers, gap, no_distance}
use Rattle.field.specs.Workings.Tests.{and_split}
use Rattle.field.specs.Workings.Sheet.{lit, west_of, south_of, around, row, rows_from, sheet}
use Rattle.field.proofs.Workings.RowTests.{same, same_is}
use Rattle.field.specs.Workings.Closing.{closing, until, sweep, next, marks}
use Rattle.field.specs.Workings.Looking.{lit_along, look, clear_of, enough_of, axis_of, open_of, assured_of}
use Rattle.field.specs.Workings.Reaching.{reach_next, reach}
use Rattle.field.specs.Workings.Placing.{total_to}
use Rattle.field.proofs.Workings.PlacingLaws.{placed_of}
use Rattle.mapfile.specs.Header.{most_digits}
use Rattle.mapfile.specs.HeaderWorking.{blank_dec, line_end_dec, digit_dec, pick, end_items, after_items, after_comment, end_number, number_from, number_after, next_number, last_blank}
use Rattle.mapfile.specs.HeadingWorking.{lastly, onto, and_then, heading_of}
use Rattle.mapfile.specs.Raster.{row_bytes, packed_bit}
use Rattle.mapfile.specs.RasterWorking.{raw_bits}
use Rattle.mapfile.specs.File.{raster_place, markers_from, markers_of}
use Rattle.mapfile.specs.FileWorking.{sides_dec, after_two}
use Rattle.mapfile.specs.Pieces.{letters_cut_dec}
use Rattle.mapfile.proofs.Pieces.{piece_some, header_piece, raster_piece}
use Rattle.mapfile.specs.Following.{most_bytes}
use Rattle.mapfile.proofs.FollowingOutcome.{first_some}
use Rattle.writer.specs.Digits.{digits_of}
use Rattle.printing.specs.PrintSome.{digits_least, printed_some}
use Rattle.planning.specs.Promise.{most_maps, Text}
use Rattle.planning.specs.Existence.{four_some, refusal_some, rock_dec, closed_sheet, numbers_of, depot_some, lines_some, step_some, last_some, runs_some, text_some}
use Rattle.planning.specs.Table.{Row, EveryRow, none, one, table}

passes : Row → Bool
passes r = same (text_some r.input).0 r.text

passes_holds : (r : Row) → passes r ≡ true → Text r.input r.text
unfolding passes
passes_holds r e = let t = text_some r.input in subst (Text r.input) (same_is t.0 r.text e) t.1

all_pass : List Row → Bool
all_pass [] = true
all_pass (r ∷ rs) = passes r && all_pass rs

all_hold : (rs : List Row) → all_pass rs ≡ true → EveryRow rs
unfolding all_pass
all_hold [] e = none
all_hold (r ∷ rs) e = let f = and_split _ _ e in one (passes_holds r f.0) (all_hold rs f.1)

table_passes : all_pass table ≡ true
unfolding all_pass passes table same dec_le dec_lt ℕ_discrete side most_markers gap no_distance lit west_of south_of around row rows_from sheet closing until sweep next marks lit_along look clear_of enough_of axis_of open_of assured_of reach_next reach total_to placed_of most_digits blank_dec line_end_dec digit_dec pick end_items after_items after_comment end_number number_from number_after next_number last_blank lastly onto and_then heading_of row_bytes packed_bit raw_bits raster_place markers_from markers_of sides_dec after_two piece_some header_piece raster_piece letters_cut_dec most_bytes first_some digits_of digits_least printed_some most_maps four_some refusal_some rock_dec closed_sheet numbers_of depot_some lines_some step_some last_some runs_some text_some
table_passes = refl

-- The table of the planners' program.
pub run_rows_hold : EveryRow table
run_rows_hold = all_hold table table_passes
