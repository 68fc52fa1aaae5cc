-- The two kinds of picture, and which number a raster of each has at a place: "PGM sheets are
-- written with largest value 65535, two bytes a crossing, high byte first as Netpbm says. Old
-- one-byte sheets are still read, their 255 becoming 65,535."
use Rattle.std.specs.Prelude.{◌≡◌, List, ℕ, ◌+◌, ◌*◌, length, get_or}
use Rattle.field.specs.Map.{On, at, no_distance, largest_value, old_largest, old_mark}
use Rattle.mapfile.specs.File.{raster_place}
use Rattle.picturefile.specs.declared.Depth.{Depth}
use Rattle.picturefile.specs.declared.Depth.TheVariants.{OneByte, TwoBytes}

-- The largest value that the header of each names, and the bytes a crossing of its raster.
abbrev pub largest_of : Depth → ℕ
largest_of OneByte = old_largest
largest_of TwoBytes = largest_value

abbrev pub bytes_of : Depth → ℕ
bytes_of OneByte = 1
bytes_of TwoBytes = 2

-- "their 255 becoming 65,535": the number that is read for a byte of an old sheet.
pub data Renewed (byte n : ℕ) : Type 0 where
  marked : byte ≡ old_mark → n ≡ no_distance → Renewed byte n
  itself : ¬ (byte ≡ old_mark) → n ≡ byte → Renewed byte n

-- The number at place i of a raster. "two bytes a crossing, high byte first"
abbrev pub Sample : Depth → List ℕ → ℕ → ℕ → Type 0
Sample OneByte raster i n = Renewed (get_or raster i 0) n
Sample TwoBytes raster i n = n ≡ 256 * get_or raster (2 * i) 0 + get_or raster (2 * i + 1) 0

-- A raster and its sheet: "north row first", so each crossing of the sheet has the number at its
-- place in the raster, and there are no more bytes.
pub record Drawn (d : Depth) (w h : ℕ) (raster sheet : List ℕ) : Type 0 where
  pub whole : length raster ≡ h * w * bytes_of d
  pub size : length sheet ≡ h * w
  pub is : (x y : ℕ) → On w h x y → Sample d raster (raster_place w h x y) (at sheet w x y)
