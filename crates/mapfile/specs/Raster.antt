-- The two rasters. Each holds a bit for each crossing, 1 a rock, in raster order: "The first raster
-- row is the northmost", each row from the west.
use Rattle.std.specs.Prelude.{◌≡◌, List, [], ◌∷◌, ◌++◌, ℕ, ◌+◌, ◌*◌, ◌-◌, ◌/◌, ◌%◌, ◌^◌, ◌<◌, length, get_or}
use Rattle.field.specs.Refusals.{bad_header, short_raster, long_raster}
use Rattle.mapfile.specs.Header.{Blank}

-- How many bytes a packed row has: eight crossings to a byte.
unfoldable pub row_bytes : ℕ → ℕ
row_bytes w = (w + 7) / 8

-- "each row is packed eight crossings to a byte, highest bit westmost, 1 a rock": the bit of column
-- x in the row that stands r rows from the north.
unfoldable pub packed_bit : ℕ → List ℕ → ℕ → ℕ → ℕ
packed_bit w l r x = get_or l (r * row_bytes w + x / 8) 0 / 2 ^ (7 - x % 8) % 2

-- The P4 raster: h packed rows and nothing after them. "Pad bits at a row's end are ignored": no
-- bit speaks of them.
pub record RawRaster (w h : ℕ) (l bits : List ℕ) : Type 0 where
  pub size : length l ≡ h * row_bytes w
  pub crossings : length bits ≡ h * w
  pub bit : (r x : ℕ) → r < h → x < w → get_or bits (r * w + x) 0 ≡ packed_bit w l r x

-- "P1: digits 0 and 1, blanks allowed anywhere before, between and after."
pub data Digits : List ℕ → List ℕ → Type 0 where
  ended : {bits l : List ℕ} → bits ≡ [] → l ≡ [] → Digits bits l
  skip : {bits l k : List ℕ} (b : ℕ) → Blank b → Digits bits k → l ≡ b ∷ k → Digits bits l
  zero_digit : {bits rest l k : List ℕ} → Digits rest k → bits ≡ 0 ∷ rest → l ≡ 48 ∷ k → Digits bits l
  one_digit : {bits rest l k : List ℕ} → Digits rest k → bits ≡ 1 ∷ rest → l ≡ 49 ∷ k → Digits bits l

pub record PlainRaster (w h : ℕ) (l bits : List ℕ) : Type 0 where
  pub digits : Digits bits l
  pub crossings : length bits ≡ h * w

-- A byte that a P1 raster may hold.
pub data PlainByte (b : ℕ) : Type 0 where
  is_blank : Blank b → PlainByte b
  is_zero : b ≡ 48 → PlainByte b
  is_one : b ≡ 49 → PlainByte b

-- The first fault met in a P4 raster: it "ends early" (14), or there are "bytes after the raster"
-- (15).
pub data RawFault (w h : ℕ) (l : List ℕ) (n : ℕ) : Type 0 where
  raw_short : length l < h * row_bytes w → n ≡ short_raster → RawFault w h l n
  raw_long : h * row_bytes w < length l → n ≡ long_raster → RawFault w h l n

-- The first fault met in a P1 raster: "a P1 raster byte before the last digit that is neither digit
-- 0, 1 nor blank" (13); it "ends early" (14); "bytes after the raster (in P1: other than blanks)"
-- (15).
pub data PlainFault (w h : ℕ) (l : List ℕ) (n : ℕ) : Type 0 where
  plain_foreign : (bits front back : List ℕ) (b : ℕ) → Digits bits front → length bits < h * w → ¬ PlainByte b → l ≡ front ++ b ∷ back → n ≡ bad_header
      → PlainFault w h l n
  plain_short : (bits : List ℕ) → Digits bits l → length bits < h * w → n ≡ short_raster → PlainFault w h l n
  plain_long : (bits front back : List ℕ) (b : ℕ) → Digits bits front → length bits ≡ h * w → ¬ Blank b → l ≡ front ++ b ∷ back → n ≡ long_raster
      → PlainFault w h l n
