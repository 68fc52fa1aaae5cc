-- What each part of reading a raster promises: the bits of its packed rows, and what is found of
-- the whole.
use Rattle.std.specs.Prelude.{◌≡◌, Result, Ok, Err, List, [], ◌∷◌, ◌++◌, ℕ, zero, suc, ◌+◌, ◌*◌, ◌-◌, ◌/◌, ◌%◌, ◌^◌, ◌≤◌, length, get_or, take}
use Rattle.field.specs.declared.refusals.Refusal.{Refusal}
use Rattle.field.specs.Refusals.{number_of}
use Rattle.mapfile.specs.Raster.{row_bytes}
use Rattle.mapfile.specs.RasterWorking.{raw_bits}
use Rattle.mapfile.specs.File.{Format, plain, raw, Raster, RasterFault, markers_of}
use Rattle.mapfile.specs.MarkerLaws.{ones}
use Rattle.raster.specs.declared.Format.{Format as CodeFormat}
use Rattle.raster.specs.declared.Format.TheVariants.{Plain, Raw}

-- The bit of column x in a packed row: "highest bit westmost, 1 a rock".
unfoldable pub row_bit : List ℕ → ℕ → ℕ
row_bit row x = get_or row (x / 8) 0 / 2 ^ (7 - x % 8) % 2

-- The bits of a packed row's first x columns.
unfoldable pub row_bits : List ℕ → ℕ → List ℕ
row_bits row zero = []
row_bits row (suc x) = row_bits row x ++ row_bit row x ∷ []

-- The raster's bits stand in raster order at the front of `out`, one a byte; so many are rocks.
pub record RasterIn (f : Format) (w h : ℕ) (body out : List ℕ) (rocks : ℕ) : Type 0 where
  pub raster : Raster f w h body (take (h * w) out)
  pub counted : rocks ≡ length (markers_of w h (take (h * w) out))

-- A raster read: its bits and its rocks, or its first fault.
abbrev pub ReadAs : Format → ℕ → ℕ → List ℕ → List ℕ → Result ℕ Refusal → Type 0
ReadAs f w h body out (Ok rocks) = RasterIn f w h body out rocks
ReadAs f w h body out (Err r) = RasterFault f w h body (number_of r)

-- Reading a row asks for its bytes, and for a byte for each bit from `at` on.
pub record MayReadRow (row : List ℕ) (w at : ℕ) (out : List ℕ) : Type 0 where
  pub bytes : row_bytes w ≤ length row
  pub room : at + w ≤ length out

-- The row's bits stand from `at` on; so many are rocks.
pub record RowRead (row : List ℕ) (w at : ℕ) (out out' : List ℕ) (r : ℕ) : Type 0 where
  pub bits : take (at + w) out' ≡ take at out ++ row_bits row w
  pub counted : r ≡ ones (row_bits row w)

-- The same of all rows: the bytes are the packed rows, and nothing more.
pub record MayReadRows (w h : ℕ) (body out : List ℕ) : Type 0 where
  pub size : length body ≡ h * row_bytes w
  pub room : h * w ≤ length out

pub record RowsRead (w h : ℕ) (body out : List ℕ) (r : ℕ) : Type 0 where
  pub bits : take (h * w) out ≡ raw_bits w h body
  pub counted : r ≡ ones (raw_bits w h body)

-- A digit 0 or 1.
pub data BitByte (b : ℕ) : Type 0 where
  zero_byte : b ≡ 48 → BitByte b
  one_byte : b ≡ 49 → BitByte b

-- The grammar's format for the code's.
abbrev pub format_of : CodeFormat → Format
format_of Plain = plain
format_of Raw = raw
