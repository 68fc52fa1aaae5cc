-- A file read whole, for a sheet of so many numbers: the picture that it is, or the number of its
-- fault, with the tests in the order of the refusals.
use Rattle.std.specs.Prelude.{List, ℕ, ◌+◌, ◌*◌, length, get_or}
use Rattle.std.proofs.Math.Option.{Option, none, some}
use Rattle.std.proofs.Math.Decide.{dec_lt, ℕ_discrete}
use Rattle.field.specs.Map.{no_distance, largest_value, old_largest, old_mark}
use Rattle.field.specs.Refusals.{bad_size, bad_sheet, bad_letters, bad_header, short_raster, long_raster, bad_largest}
use Rattle.field.specs.Workings.Sheet.{sheet}
use Rattle.mapfile.specs.File.{raster_place}
use Rattle.mapfile.specs.HeaderWorking.{pick}
use Rattle.mapfile.specs.HeadingWorking.{Heading, heading, no_heading, heading_of}
use Rattle.mapfile.specs.FileWorking.{sides_dec, after_two}
use Rattle.picturefile.specs.declared.Depth.{Depth}
use Rattle.picturefile.specs.declared.Depth.TheVariants.{OneByte, TwoBytes}
use Rattle.picturefile.specs.Depths.{bytes_of}

-- What a file is seen to be.
pub data Seen : Type 0 where
  a_picture : (w h : ℕ) (sheet : List ℕ) → Seen
  a_fault : ℕ → Seen

-- The number at place i of a raster, and the sheet of it.
unfoldable pub renewed_of : ℕ → ℕ
renewed_of byte = pick (ℕ_discrete byte old_mark) no_distance byte

unfoldable pub sample_of : Depth → List ℕ → ℕ → ℕ
sample_of OneByte raster i = renewed_of (get_or raster i 0)
sample_of TwoBytes raster i = 256 * get_or raster (2 * i) 0 + get_or raster (2 * i + 1) 0

unfoldable pub sheet_of : Depth → ℕ → ℕ → List ℕ → List ℕ
sheet_of d w h raster = sheet w h (λ x y. sample_of d raster (raster_place w h x y))

-- By the raster's length; by the sheet's; by the largest value; by the sides.
unfoldable pub length_seen : Depth → ℕ → ℕ → List ℕ → Seen
length_seen d w h body =
    pick (dec_lt (length body) (h * w * bytes_of d)) (a_fault short_raster)
    (pick (dec_lt (h * w * bytes_of d) (length body)) (a_fault long_raster) (a_picture w h (sheet_of d w h body)))

unfoldable pub sheet_seen : ℕ → Depth → ℕ → ℕ → List ℕ → Seen
sheet_seen lent d w h body = pick (ℕ_discrete lent (h * w)) (length_seen d w h body) (a_fault bad_sheet)

unfoldable pub largest_seen : ℕ → ℕ → ℕ → ℕ → List ℕ → Seen
largest_seen lent w h largest body =
    pick (ℕ_discrete largest old_largest) (sheet_seen lent OneByte w h body)
    (pick (ℕ_discrete largest largest_value) (sheet_seen lent TwoBytes w h body) (a_fault bad_largest))

unfoldable pub sides_seen : ℕ → ℕ → ℕ → ℕ → List ℕ → Seen
sides_seen lent w h largest body = pick (sides_dec w h) (largest_seen lent w h largest body) (a_fault bad_size)

-- What follows the letters, by the header; the file, by its letters.
unfoldable pub headed_seen : ℕ → Heading → Seen
headed_seen lent (heading vs body) = sides_seen lent (get_or vs 0 0) (get_or vs 1 0) (get_or vs 2 0) body
headed_seen lent no_heading = a_fault bad_header

unfoldable pub letters_seen : ℕ → Option (List ℕ) → Seen
letters_seen lent none = a_fault bad_letters
letters_seen lent (some l) = headed_seen lent (heading_of 3 l)

unfoldable pub picture_seen : List ℕ → ℕ → Seen
picture_seen file lent = letters_seen lent (after_two 80 53 file)
