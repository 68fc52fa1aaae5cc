-- Every row of the table of small files holds of the definitions: each passes a test that the
-- checker computes, and a row that passes its test holds.
use Rattle.std.specs.Prelude.{◌≡◌, refl, Bool, true, ◌&&◌, List, [], ◌∷◌}
use Rattle.std.proofs.Math.Decide.{dec_le, dec_lt, ℕ_discrete}
use Rattle.field.specs.Map.{side, tallest}
use Rattle.field.specs.Workings.Tests.{and_split}
use Rattle.field.specs.Workings.Sheet.{row, rows_from, sheet}
use Rattle.field.specs.Workings.Stamping.{rock_of, stands}
use Rattle.field.proofs.Workings.Corners.{every}
use Rattle.field.proofs.Workings.RowTests.{same}
use Rattle.mapfile.specs.Header.{value_from, most_digits}
use Rattle.mapfile.specs.HeaderWorking.{blank_dec, line_end_dec, digit_dec, pick, end_items, after_items, after_comment, end_number, number_from, number_after, next_number, last_blank}
use Rattle.mapfile.specs.HeadingWorking.{lastly, onto, and_then, heading_of}
use Rattle.mapfile.specs.Raster.{row_bytes, packed_bit}
use Rattle.mapfile.specs.RasterWorking.{raw_bits, digits_of, plain_verdict}
use Rattle.mapfile.specs.File.{markers_from, markers_of}
use Rattle.mapfile.specs.FileWorking.{sides_dec, plain_found, raw_found, raster_found, sized_found, headed_found, after_two, raw_letters_found, letters_found, file_found}
use Rattle.mapfile.specs.Table.{Row, Holds, table}
use Rattle.mapfile.proofs.Rows.{found_map, found_fault, alike, digit_of, plain_of, crossing_of, pad_of, byte_of, packed_of, digits_in, width_in, height_in, rows_in, written_of, passes, passes_holds}

-- Every row of a list holds.
pub data EveryRow : List Row → Type 0 where
  none : EveryRow []
  one : {r : Row} {rs : List Row} → Holds r → EveryRow rs → EveryRow (r ∷ rs)

all_pass : List Row → Bool
all_pass [] = true
all_pass (r ∷ rs) = passes r && all_pass rs

all_hold : (rs : List Row) → all_pass rs ≡ true → EveryRow rs
unfolding all_pass
all_hold [] e = none
all_hold (r ∷ rs) e = let f = and_split _ _ e in one (passes_holds r f.0) (all_hold rs f.1)

table_passes : all_pass table ≡ true
unfolding all_pass table dec_le dec_lt ℕ_discrete side tallest row rows_from sheet rock_of stands every same value_from most_digits blank_dec line_end_dec digit_dec pick end_items after_items after_comment end_number number_from number_after next_number last_blank lastly onto and_then heading_of row_bytes packed_bit raw_bits digits_of plain_verdict markers_from markers_of sides_dec plain_found raw_found raster_found sized_found headed_found after_two raw_letters_found letters_found file_found found_map found_fault alike digit_of plain_of crossing_of pad_of byte_of packed_of digits_in width_in height_in rows_in written_of passes
table_passes = refl

-- The small files.
pub every_file_holds : EveryRow table
every_file_holds = all_hold table table_passes
