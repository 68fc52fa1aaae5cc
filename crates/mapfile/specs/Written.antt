-- What writing gives: "P4", LF, width, space, height, LF and the rows, pad bits 0, with no leading
-- zeros.
use Rattle.std.specs.Prelude.{◌≡◌, List, ◌∷◌, ◌++◌, ℕ, ◌+◌, ◌*◌, ◌-◌, ◌<◌, ◌≤◌, length, get_or}
use Rattle.mapfile.specs.Header.{Number}
use Rattle.mapfile.specs.Raster.{row_bytes, packed_bit}
use Rattle.mapfile.specs.File.{raw_letters}

-- A number with no leading zeros.
pub record Plain (v : ℕ) (l : List ℕ) : Type 0 where
  pub number : Number v l
  pub leading : ¬ (get_or l 0 0 ≡ 48)

-- The packed rows: R tells the rocks; each bit of a crossing is 1 exactly at a rock, and pad bits
-- are 0.
pub record PackedRows (w h : ℕ) (R : ℕ → ℕ → Type 0) (l : List ℕ) : Type 0 where
  pub size : length l ≡ h * row_bytes w
  pub bytes : (i : ℕ) → get_or l i 0 < 256
  pub rock : (r x : ℕ) → r < h → x < w → R x (h - (r + 1)) → packed_bit w l r x ≡ 1
  pub free : (r x : ℕ) → r < h → x < w → ¬ R x (h - (r + 1)) → packed_bit w l r x ≡ 0
  pub pad : (r x : ℕ) → r < h → w ≤ x → x < row_bytes w * 8 → packed_bit w l r x ≡ 0

-- The whole file.
pub record Written (w h : ℕ) (R : ℕ → ℕ → Type 0) (file : List ℕ) : Type 0 where
  pub width : List ℕ
  pub height : List ℕ
  pub rows : List ℕ
  pub width_is : Plain w width
  pub height_is : Plain h height
  pub rows_are : PackedRows w h R rows
  pub is : file ≡ raw_letters ++ 10 ∷ width ++ 32 ∷ height ++ 10 ∷ rows
