-- Packed rows being read, row by row: the bits of the rows passed stand at the front, and so many
-- of them are rocks.
use mathlib.Core.Path.{◌≡◌, refl, sym, ap, ◌∙◌}
use mathlib.Core.List.{List, [], ◌∷◌, ◌++◌, append_assoc, append-nil}
use Prim.Native.Nat.{ℕ, ◌+◌, ◌*◌, ◌<◌, ◌≤◌}
use native.Mathlib.Omega.{arith}
use native.Mathlib.Nat.{zero-mul, add-zero, mul-le-mul_right}
use lib.ListN.{length, take, set, length-take, length-set}
use lib.Seq.{take_all}
use Rattle.field.specs.Map.{Sides}
use Rattle.field.specs.Limits.{crossing_slots, crossings_few}
use Rattle.mapfile.specs.Raster.{RawRaster}
use Rattle.mapfile.specs.RasterWorking.{raw_bits}
use Rattle.mapfile.specs.RasterLaws.{raw_raster}
use Rattle.mapfile.specs.MarkerLaws.{ones, ones-le, ones_append}
use Rattle.raster.specs.RasterParts.{row_bit, row_bits, RowRead, MayReadRows, RowsRead}
use Rattle.raster.proofs.Rows.{take_set}
use Rattle.raster.proofs.PackedRows.{row_next, row_ones}

-- Within a row: after x columns.
pub record InRow (row : List ℕ) (at x : ℕ) (out out' : List ℕ) (rocks : ℕ) : Type 0 where
  pub size : length out' ≡ length out
  pub bits : take (at + x) out' ≡ take at out ++ row_bits row x
  pub counted : rocks ≡ ones (row_bits row x)

pub row_start : (row : List ℕ) (at : ℕ) (out : List ℕ) → InRow row at 0 out out 0
unfolding ones row_bits
row_start row at out = record { size = refl; bits = rw (add-zero at, append-nil (take at out)); counted = refl }

pub row_more : {row out out' : List ℕ} {at x rocks b : ℕ} → InRow row at x out out' rocks → at + x < length out → b ≡ row_bit row x
    → InRow row at (x + 1) out (set out' (at + x) b) (rocks + b)
row_more {row} {out} {out'} {at} {x} {rocks} {b} i l e =
    record {
      size = length-set out' (at + x) b ∙ i.size;
      bits =
          ap (λ (n : ℕ). take n (set out' (at + x) b)) next
          ∙ take_set out' (at + x) b (omega (arith, i.size))
          ∙ ap (λ (f : List ℕ). f ++ b ∷ []) i.bits
          ∙ append_assoc (take at out) (row_bits row x) (b ∷ [])
          ∙ ap (λ (f : List ℕ). take at out ++ f) (ap (λ (v : ℕ). row_bits row x ++ v ∷ []) e ∙ last);
      counted = omega (arith, i.counted, row_ones row x, e);
    }
  where
    next : at + (x + 1) ≡ at + x + 1
    next = omega arith

    last : row_bits row x ++ row_bit row x ∷ [] ≡ row_bits row (x + 1)
    last = sym (row_next row x)

-- After k rows.
pub record AfterRows (w h : ℕ) (body out out' : List ℕ) (rocks k : ℕ) : Type 0 where
  pub within : k ≤ h
  pub size : length out' ≡ length out
  pub bits : take (k * w) out' ≡ take (k * w) (raw_bits w h body)
  pub counted : rocks ≡ ones (take (k * w) (raw_bits w h body))

module _ {w h : ℕ} {body out : List ℕ} (s : Sides w h) (r : MayReadRows w h body out) where
  pub raster : RawRaster w h body (raw_bits w h body)
  raster = raw_raster w h body r.size

  pub rows_start : AfterRows w h body out out 0 0
  unfolding ones
  rows_start = record { within = omega arith; size = refl; bits = rw (zero-mul w) refl; counted = rw (zero-mul w) refl }

  module _ {out' : List ℕ} {rocks k : ℕ} (c : AfterRows w h body out out' rocks k) where
    -- There are no more rocks than crossings.
    pub rows_few : rocks ≤ crossing_slots
    rows_few =
        omega (
          arith,
          c.counted,
          crossings_few s,
          ones-le (take (k * w) (raw_bits w h body)),
          length-take (k * w) (raw_bits w h body),
          raster.crossings,
        )

    pub rows_more : {out'' : List ℕ} {more : ℕ} (row : List ℕ) → k < h → length out'' ≡ length out'
        → take ((k + 1) * w) (raw_bits w h body) ≡ take (k * w) (raw_bits w h body) ++ row_bits row w → RowRead row w (k * w) out' out'' more
        → AfterRows w h body out out'' (rocks + more) (k + 1)
    rows_more {out''} {more} row l size e m =
        record {
          within = omega arith;
          size = size ∙ c.size;
          bits = ap (λ (n : ℕ). take n out'') next ∙ m.bits ∙ ap (λ (f : List ℕ). f ++ row_bits row w) c.bits ∙ sym e;
          counted = omega (arith, c.counted, m.counted, ap ones e, ones_append (take (k * w) (raw_bits w h body)) (row_bits row w));
        }
      where
        next : (k + 1) * w ≡ k * w + w
        next = omega arith

    pub rows_end : h ≤ k → RowsRead w h body out' rocks
    rows_end l = record { bits = ap (λ (n : ℕ). take (n * w) out') same ∙ c.bits ∙ whole; counted = c.counted ∙ ap ones whole }
      where
        same : h ≡ k
        same = omega (arith, c.within)

        all : h * w ≤ k * w
        all = mul-le-mul_right {m = h} {n = k} w l

        whole : take (k * w) (raw_bits w h body) ≡ raw_bits w h body
        whole = take_all (k * w) (raw_bits w h body) (omega (arith, raster.crossings, all))
