-- Every row of the table of small pictures holds of the definitions: each passes a test that the
-- checker computes, and a row that passes its test holds.
use Rattle.std.specs.Prelude.{◌≡◌, refl, Bool, true, ◌&&◌, List, [], ◌∷◌}
use Rattle.std.proofs.Math.Decide.{dec_le, dec_lt, ℕ_discrete}
use Rattle.field.specs.Map.{side, no_distance, largest_value, old_largest, old_mark}
use Rattle.field.specs.Workings.Tests.{and_split}
use Rattle.field.specs.Workings.Sheet.{row, rows_from, sheet}
use Rattle.field.proofs.Workings.Corners.{every}
use Rattle.field.proofs.Workings.RowTests.{same}
use Rattle.mapfile.specs.Header.{value_from, most_digits}
use Rattle.mapfile.specs.HeaderWorking.{blank_dec, line_end_dec, digit_dec, pick, end_items, after_items, after_comment, end_number, number_from, number_after, next_number, last_blank}
use Rattle.mapfile.specs.HeadingWorking.{lastly, onto, and_then, heading_of}
use Rattle.mapfile.specs.File.{raster_place}
use Rattle.mapfile.specs.FileWorking.{sides_dec, after_two}
use Rattle.mapfile.proofs.Rows.{digit_of, plain_of, byte_of, digits_in}
use Rattle.picturefile.specs.Working.{renewed_of, sample_of, sheet_of, length_seen, sheet_seen, largest_seen, sides_seen, headed_seen, letters_seen, picture_seen}
use Rattle.picturefile.specs.Table.{Row, Holds, table}
use Rattle.picturefile.proofs.Rows.{seen_picture, seen_fault, width_in, height_in, largest_in, rows_in, parts_in, filed_of, written_of, passes, passes_holds}

-- Every row of a list holds.
pub data EveryRow : List Row → Type 0 where
  none : EveryRow []
  one : {r : Row} {rs : List Row} → Holds r → EveryRow rs → EveryRow (r ∷ rs)

all_pass : List Row → Bool
all_pass [] = true
all_pass (r ∷ rs) = passes r && all_pass rs

all_hold : (rs : List Row) → all_pass rs ≡ true → EveryRow rs
unfolding all_pass
all_hold [] e = none
all_hold (r ∷ rs) e = let f = and_split _ _ e in one (passes_holds r f.0) (all_hold rs f.1)

table_passes : all_pass table ≡ true
unfolding all_pass table dec_le dec_lt ℕ_discrete side no_distance largest_value old_largest old_mark row rows_from sheet every same value_from most_digits blank_dec line_end_dec digit_dec pick end_items after_items after_comment end_number number_from number_after next_number last_blank lastly onto and_then heading_of raster_place sides_dec after_two digit_of plain_of byte_of digits_in renewed_of sample_of sheet_of length_seen sheet_seen largest_seen sides_seen headed_seen letters_seen picture_seen seen_picture seen_fault width_in height_in largest_in rows_in parts_in filed_of written_of passes
table_passes = refl

-- The small pictures.
pub every_picture_holds : EveryRow table
every_picture_holds = all_hold table table_passes
