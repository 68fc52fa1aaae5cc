-- The bits of a packed row, column by column, and the packed rows of a raster: each is a part of
-- the bytes, and its bits are the next of the map's.
use mathlib.Core.Path.{◌≡◌, refl, ap, ◌∙◌}
use mathlib.Core.List.{List, [], ◌∷◌, ◌++◌, append_assoc, append-nil}
use Prim.Native.Nat.{ℕ, zero, suc, ◌+◌, ◌*◌, ◌-◌, ◌/◌, ◌<◌, ◌≤◌}
use native.Mathlib.Omega.{arith}
use native.Mathlib.Numerals.{add-one}
use native.Mathlib.Nat.{add-zero, add_assoc, mul-le-mul_right}
use lib.ListN.{length, take, drop, length-append, length-drop}
use lib.Seq.{take_all, get_or-drop}
use Rattle.mapfile.specs.Raster.{row_bytes, packed_bit, RawRaster}
use Rattle.mapfile.specs.MarkerLaws.{ones, ones-le, ones_snoc}
use Rattle.raster.specs.RasterParts.{row_bit, row_bits}
use Rattle.raster.proofs.Rows.{place_below, take_next}

module _ (row : List ℕ) where
  pub bit_small : (x : ℕ) → row_bit row x ≤ 1
  unfolding row_bit
  bit_small x = omega arith

  -- The byte of a column is there.
  pub byte_there : {w x : ℕ} → x < w → row_bytes w ≤ length row → x / 8 < length row
  unfolding row_bytes
  byte_there p q = omega arith

  pub row_next : (x : ℕ) → row_bits row (x + 1) ≡ row_bits row x ++ row_bit row x ∷ []
  unfolding row_bits
  row_next x = rw (add-one x)

  pub row_length : (x : ℕ) → length (row_bits row x) ≡ x
  unfolding row_bits
  row_length zero = refl
  row_length (suc x) = omega (arith, length-append (row_bits row x) (row_bit row x ∷ []), row_length x)

  pub row_ones : (x : ℕ) → ones (row_bits row (x + 1)) ≡ ones (row_bits row x) + row_bit row x
  row_ones x = ap ones (row_next x) ∙ ones_snoc (row_bits row x) (row_bit row x) (bit_small x)

  pub row_ones_few : (x : ℕ) → ones (row_bits row x) ≤ x
  row_ones_few x = omega (arith, ones-le (row_bits row x), row_length x)

module _ {w h : ℕ} {body bits : List ℕ} (r : RawRaster w h body bits) (k : ℕ) (l : k < h) where
  -- The part of the bytes from the k-th row on.
  abbrev rest : List ℕ
  rest = drop (k * row_bytes w) body

  bit_is : (x : ℕ) → row_bit rest x ≡ packed_bit w body k x
  unfolding row_bit packed_bit
  bit_is x = rw (get_or-drop (k * row_bytes w) body (x / 8) 0)

  row_within : k * row_bytes w + row_bytes w ≤ length body
  row_within = omega (arith, r.size, mul-le-mul_right {m = k + 1} {n = h} (row_bytes w) (omega arith))

  columns : (x : ℕ) → x ≤ w → take (k * w + x) bits ≡ take (k * w) bits ++ row_bits rest x
  unfolding row_bits
  columns zero m = rw (add-zero (k * w), append-nil (take (k * w) bits))
  columns (suc x) m =
      rw (← add-one x, ← add_assoc (k * w) x 1)
      (take_next bits (k * w + x) (omega (arith, place_below w h k x l (omega arith), r.crossings))
      ∙ rw (r.bit k x l (omega arith), ← bit_is x, columns x (omega arith))
      (append_assoc (take (k * w) bits) (row_bits rest x) (row_bit rest x ∷ [])))

  -- The slice that starts at the row's first byte.
  module _ {bytes : ℕ} (e : bytes ≡ row_bytes w) where
    slice_is : take (length body - k * bytes) (drop (k * bytes) body) ≡ rest
    slice_is = rw e (take_all (length body - k * row_bytes w) rest (omega (arith, length-drop (k * row_bytes w) body)))

    -- A row more of the bits passed.
    pub row_taken : take ((k + 1) * w) bits ≡ take (k * w) bits ++ row_bits (take (length body - k * bytes) (drop (k * bytes) body)) w
    row_taken = rw slice_is (ap (λ (i : ℕ). take i bits) next ∙ columns w (omega arith))
      where
        next : (k + 1) * w ≡ k * w + w
        next = omega arith
