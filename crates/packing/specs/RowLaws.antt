-- The rows that the code writes are the grammar's packed rows: each bit of a row is the bit of its
-- column, for byte k holds the columns from k * 8 on, and row r stands r rows from the north.
use Rattle.std.specs.Prelude.{◌≡◌, refl, List, [], ◌∷◌, ℕ, ◌+◌, ◌*◌, ◌-◌, ◌/◌, ◌%◌, ◌^◌, ◌<◌, length, get_or}
use Rattle.std.proofs.Common.{sym, ap, ◌∙◌}
use native.Mathlib.Omega.{arith}
use Rattle.std.proofs.Math.Decide.{dec_lt}
use Rattle.std.proofs.Math.ListN.{get_or-eq_default}
use Rattle.field.specs.Map.{at}
use Rattle.field.specs.Workings.Sheet.{Marked, Crossing, crossing}
use Rattle.mapfile.specs.Raster.{row_bytes, packed_bit}
use Rattle.mapfile.specs.Written.{PackedRows}
use Rattle.mapfile.proofs.PackedLaws.{packed_at}
use Rattle.packing.specs.Packing.{rock_bit, byte_of, row_of, rows_of}
use Rattle.packing.specs.PackingLaws.{rock_bit_marked, rock_bit_bare, rock_bit_past, rock_bit_small, packed_lt, packed_bit_lem, pieces_length, pieces_at}

pub byte_lt : (s : List ℕ) (from w x : ℕ) → byte_of s from w x < 256
unfolding byte_of
byte_lt s from w x = packed_lt (rock_bit s from w) (rock_bit_small s from w) x 8

pub byte_bit : (s : List ℕ) (from w x j : ℕ) → j < 8 → byte_of s from w x / 2 ^ (7 - j) % 2 ≡ rock_bit s from w (x + j)
unfolding byte_of
byte_bit s from w x j h =
    let place : 7 - j ≡ 8 - (j + 1) = omega arith in
    rw place (packed_bit_lem (rock_bit s from w) (rock_bit_small s from w) x 8 j h)

pub row_length : (s : List ℕ) (w y : ℕ) → length (row_of s w y) ≡ row_bytes w
unfolding row_of
row_length s w y = pieces_length (λ k. byte_of s (y * w) w (k * 8) ∷ []) 1 (λ k. refl) (row_bytes w) ∙ omega arith

row_byte : (s : List ℕ) (w y k : ℕ) → k < row_bytes w → get_or (row_of s w y) k 0 ≡ byte_of s (y * w) w (k * 8)
unfolding row_of
row_byte s w y k h =
    ap (λ (i : ℕ). get_or (row_of s w y) i 0) (place k) ∙ pieces_at (λ k. byte_of s (y * w) w (k * 8) ∷ []) 1 (λ k. refl) (row_bytes w) k 0 h (omega arith)
  where
    place : (k : ℕ) → k ≡ k * 1 + 0
    place k = omega arith

module _ (s : List ℕ) (w h : ℕ) where
  pub rows_length : length (rows_of s w h) ≡ h * row_bytes w
  unfolding rows_of
  rows_length = pieces_length (λ r. row_of s w (h - (r + 1))) (row_bytes w) (λ r. row_length s w (h - (r + 1))) h

  rows_byte : (r k : ℕ) → r < h → k < row_bytes w → get_or (rows_of s w h) (r * row_bytes w + k) 0 ≡ byte_of s ((h - (r + 1)) * w) w (k * 8)
  unfolding rows_of
  rows_byte r k a b =
      pieces_at (λ r. row_of s w (h - (r + 1))) (row_bytes w) (λ r. row_length s w (h - (r + 1))) h r k a b ∙ row_byte s w (h - (r + 1)) k b

  rows_small : (i : ℕ) → get_or (rows_of s w h) i 0 < 256
  rows_small i = go (dec_lt i (h * row_bytes w))
    where
      byte : Crossing (row_bytes w) h i → get_or (rows_of s w h) i 0 < 256
      byte c =
          rw (← c.is, rows_byte c.y c.x c.on.in_y c.on.in_x) (byte_lt s ((h - (c.y + 1)) * w) w (c.x * 8))

      go : Dec (i < h * row_bytes w) → get_or (rows_of s w h) i 0 < 256
      go (yes m) = byte (crossing (row_bytes w) h i m)
      go (no m) = omega (arith, get_or-eq_default (rows_of s w h) 0 {n = i} (omega (arith, rows_length)))

  -- Each bit of the rows is the bit of its column.
  rows_bit : (r x : ℕ) → r < h → x < row_bytes w * 8 → packed_bit w (rows_of s w h) r x ≡ rock_bit s ((h - (r + 1)) * w) w x
  rows_bit r x a b =
      let split : x / 8 * 8 + x % 8 ≡ x = omega arith in
      let j : x % 8 < 8 = omega arith in
      let k : x / 8 < row_bytes w = omega arith in
      let from = (h - (r + 1)) * w in
      let bit = packed_at w (rows_of s w h) r (x / 8) (x % 8) j in
      let byte : get_or (rows_of s w h) (r * row_bytes w + x / 8) 0 / 2 ^ (7 - x % 8) % 2 ≡ byte_of s from w (x / 8 * 8) / 2 ^ (7 - x % 8) % 2 =
      ap (λ (n : ℕ). n / 2 ^ (7 - x % 8) % 2) (rows_byte r (x / 8) a k) in
      ap (packed_bit w (rows_of s w h) r) (sym split) ∙ bit ∙ byte ∙ byte_bit s from w (x / 8 * 8) (x % 8) j ∙ ap (rock_bit s from w) split

  -- A column of the map is within the row's bytes.
  in_bytes : (x : ℕ) → x < w → x < row_bytes w * 8
  unfolding row_bytes
  in_bytes x m = omega arith

  pub rows_packed : PackedRows w h (Marked s w h) (rows_of s w h)
  rows_packed =
      record {
        size = rows_length;
        bytes = rows_small;
        rock = λ r x a b m. rows_bit r x a (in_bytes x b) ∙ rock_bit_marked s ((h - (r + 1)) * w) w x b m.mark;
        free = λ r x a b m. rows_bit r x a (in_bytes x b) ∙ rock_bit_bare s ((h - (r + 1)) * w) w x b (bare r x a b m);
        pad = λ r x a b c. rows_bit r x a c ∙ rock_bit_past s ((h - (r + 1)) * w) w x b;
      }
    where
      bare : (r x : ℕ) → r < h → x < w → ¬ Marked s w h x (h - (r + 1)) → at s w x (h - (r + 1)) ≡ 0
      bare r x a b m = go (dec_lt 0 (at s w x (h - (r + 1))))
        where
          go : Dec (0 < at s w x (h - (r + 1))) → at s w x (h - (r + 1)) ≡ 0
          go (yes n) = absurd (m (record { on = record { in_x = b; in_y = omega arith }; mark = n }))
          go (no n) = omega arith
