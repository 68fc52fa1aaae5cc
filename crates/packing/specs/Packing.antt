-- Packed rows as the code writes them, computed. That these are the grammar's packed rows stands in
-- PackingLaws.
use Rattle.std.specs.Prelude.{◌≡◌, ◌&&◌, List, [], ◌∷◌, ◌++◌, ℕ, zero, suc, ◌+◌, ◌*◌, ◌-◌, ◌<◌, ◌≤◌, ltb, length, get_or}
use Rattle.field.specs.Workings.Sheet.{bit}
use Rattle.mapfile.specs.Raster.{row_bytes}

-- The sheet has the whole row of w crossings from the number `from` on.
pub record RowIn (s : List ℕ) (from w : ℕ) : Type 0 where
  pub whole : from + w ≤ length s

-- And x is a column of the row.
pub record ByteIn (s : List ℕ) (from w x : ℕ) : Type 0 where
  pub whole : from + w ≤ length s
  pub column : x < w

-- The sheet has row y, and the output just the room for it.
pub record RowRoom (s : List ℕ) (w y : ℕ) (out : List ℕ) : Type 0 where
  pub whole : y * w + w ≤ length s
  pub room : length out ≡ row_bytes w

-- The bit of column x of the row from the number `from` on: 1 where the sheet has a mark, 0 where
-- it has none and past the row's end.
unfoldable pub rock_bit : List ℕ → ℕ → ℕ → ℕ → ℕ
rock_bit s from w x = bit (ltb x w && ltb 0 (get_or s (from + x) 0))

-- The bits f x, f (x + 1), .., n of them, as a number, the first the highest.
unfoldable pub packed : (ℕ → ℕ) → ℕ → ℕ → ℕ
packed f x zero = 0
packed f x (suc n) = packed f x n * 2 + f (x + n)

-- Eight crossings of the row, from column x on.
unfoldable pub byte_of : List ℕ → ℕ → ℕ → ℕ → ℕ
byte_of s from w x = packed (rock_bit s from w) x 8

-- n pieces, one after the other.
unfoldable pub pieces : {A : Type 0} → ℕ → (ℕ → List A) → List A
pieces zero f = []
pieces (suc n) f = pieces n f ++ f n

-- Row y of the map, packed.
unfoldable pub row_of : List ℕ → ℕ → ℕ → List ℕ
row_of s w y = pieces (row_bytes w) (λ k. byte_of s (y * w) w (k * 8) ∷ [])

-- The packed rows, the northmost first.
unfoldable pub rows_of : List ℕ → ℕ → ℕ → List ℕ
rows_of s w h = pieces h (λ r. row_of s w (h - (r + 1)))
