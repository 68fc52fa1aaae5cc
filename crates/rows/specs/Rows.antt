-- Where a crossing's bit stands: crossing (x, y) is bit x % 64 of word x / 64 of row y.
use Rattle.std.specs.Prelude.{◌≡◌, List, ℕ, ◌+◌, ◌*◌, ◌/◌, ◌%◌, ◌^◌, ◌<◌, ◌≤◌, length, get_or}
use Rattle.field.specs.Map.{On}
use Rattle.bits.specs.Bit.{bit_at}
use Rattle.rows.specs.Layout.{stride, spot}

abbrev pub word_at : List ℕ → ℕ → ℕ → ℕ
word_at c y j = get_or c (spot y j) 0

abbrev pub bit_in : List ℕ → ℕ → ℕ → ℕ
bit_in c x y = bit_at (word_at c y (x / 64)) (x % 64)

-- (x, y) is a crossing of the map, and its bit is set.
pub record Lit (w h : ℕ) (c : List ℕ) (x y : ℕ) : Type 0 where
  pub on : On w h x y
  pub set : bit_in c x y ≡ 1

-- Bit k of the word at i is a crossing's.
pub record Place (w h i k : ℕ) : Type 0 where
  pub x : ℕ
  pub y : ℕ
  pub on : On w h x y
  pub word : i ≡ spot y (x / 64)
  pub bit : k ≡ x % 64

-- There is a word for each of h rows, and a row of zeros on either side.
abbrev pub Long : ℕ → List ℕ → Type 0
Long h c = (h + 2) * stride ≤ length c

-- Only crossings have set bits: the words between the rows, the rows on either side and the bits
-- past the width have none.
pub record Rows (w h : ℕ) (c : List ℕ) : Type 0 where
  pub long : Long h c
  pub words : (i : ℕ) → get_or c i 0 < 2 ^ 64
  pub narrow : (i k : ℕ) → bit_at (get_or c i 0) k ≡ 1 → Place w h i k

-- Word j of a row has n crossings.
pub record WidthAt (w j n : ℕ) : Type 0 where
  pub some : 1 ≤ n
  pub most : n ≤ 64
  pub in_row : 64 * j + n ≤ w
  pub all : (i : ℕ) → i < 64 → 64 * j + i < w → i < n

-- The mask has a bit for each of them, and no other.
pub record MaskAt (w j mask : ℕ) : Type 0 where
  pub has : (i : ℕ) → i < 64 → 64 * j + i < w → bit_at mask i ≡ 1
  pub only : (i : ℕ) → bit_at mask i ≡ 1 → 64 * j + i < w
