-- The markers of a file's bits: their number, their ids, and the crossings that they stand on. The
-- k-th bit speaks of the crossing x = k % w in the row that stands k / w rows from the north, and
-- rasterPlace is the way back.
use Rattle.std.specs.Prelude.{◌≡◌, length, get_or}
use Rattle.std.proofs.Math.Path.{refl, ap, ap₂}
use Rattle.std.proofs.Common.{◌∙◌, arith}
use mathlib.Core.List.{List, [], ◌∷◌, ◌++◌}
use Prim.Native.Nat.{ℕ, zero, suc, ◌+◌, ◌-◌, ◌/◌, ◌%◌, ◌<◌, ◌≤◌}
use Rattle.field.specs.declared.Marker.{Marker}
use Rattle.field.specs.Map.{tallest}
use Rattle.field.specs.Labels.{blank}
use Rattle.mapfile.specs.File.{markers_from}

-- How many bits are not 0.
unfoldable pub ones : List ℕ → ℕ
ones [] = 0
ones (zero ∷ bits) = ones bits
ones (suc b ∷ bits) = suc (ones bits)

pub ones_append : (a b : List ℕ) → ones (a ++ b) ≡ ones a + ones b
unfolding ones
ones_append [] b = omega arith
ones_append (zero ∷ a) b = ones_append a b
ones_append (suc k ∷ a) b = omega (arith, ones_append a b)

pub ones-le : (bits : List ℕ) → ones bits ≤ length bits
unfolding ones
ones-le [] = omega arith
ones-le (zero ∷ bits) = omega (arith, ones-le bits)
ones-le (suc b ∷ bits) = omega (arith, ones-le bits)

-- One bit more.
pub ones_snoc : (bits : List ℕ) (b : ℕ) → b ≤ 1 → ones (bits ++ b ∷ []) ≡ ones bits + b
unfolding ones
ones_snoc bits zero l = ones_append bits (0 ∷ [])
ones_snoc bits (suc b) l = ones_append bits (suc b ∷ []) ∙ omega arith

-- The marker with this id on the crossing of the k-th bit, as high as any.
abbrev pub marker_at : ℕ → ℕ → ℕ → ℕ → Marker
marker_at w h id k = record { id = id; x = k % w; y = h - (k / w + 1); height = tallest }

module _ (w h : ℕ) where
  -- There is a marker for each bit that is not 0.
  pub markers_length : (n k : ℕ) (bits : List ℕ) → length (markers_from w h n k bits) ≡ ones bits
  unfolding markers_from ones
  markers_length n k [] = refl
  markers_length n k (zero ∷ bits) = markers_length n (k + 1) bits
  markers_length n k (suc b ∷ bits) = ap suc (markers_length (n + 1) (k + 1) bits)

  -- The markers of bits after bits.
  pub markers_append : (n k : ℕ) (a b : List ℕ) → markers_from w h n k (a ++ b) ≡ markers_from w h n k a ++ markers_from w h (n + ones a) (k + length a) b
  unfolding markers_from ones
  markers_append n k [] b = ap₂ (λ (i j : ℕ). markers_from w h i j b) (omega arith) (omega arith)
  markers_append n k (zero ∷ a) b =
      markers_append n (k + 1) a b
      ∙ ap (λ (j : ℕ). markers_from w h n (k + 1) a ++ markers_from w h (n + ones a) j b) (omega arith)
  markers_append n k (suc c ∷ a) b =
      ap (λ (m : List Marker). marker_at w h n k ∷ m)
      (markers_append (n + 1) (k + 1) a b
      ∙ ap₂ (λ (i j : ℕ). markers_from w h (n + 1) (k + 1) a ++ markers_from w h i j b) (omega arith) (omega arith))

  -- The i-th marker is that of some bit.
  pub record OfBit (bits : List ℕ) (n k i : ℕ) : Type 0 where
    pub place : ℕ
    pub below : place < length bits
    pub one : 1 ≤ get_or bits place 0
    pub is : get_or (markers_from w h n k bits) i blank ≡ marker_at w h (n + i) (k + place)

  pub marker_of : (n k : ℕ) (bits : List ℕ) (i : ℕ) → i < ones bits → OfBit bits n k i
  unfolding markers_from ones
  marker_of n k [] i l = absurd (omega arith)
  marker_of n k (zero ∷ bits) i l =
      let m = marker_of n (k + 1) bits i l in
      record { place = suc m.place; below = omega (arith, m.below); one = m.one; is = m.is ∙ ap (marker_at w h (n + i)) (omega arith) }
  marker_of n k (suc b ∷ bits) zero l =
      record {
        place = 0;
        below = omega arith;
        one = omega arith;
        is = ap₂ (marker_at w h) (omega arith) (omega arith);
      }
  marker_of n k (suc b ∷ bits) (suc i) l =
      let m = marker_of (n + 1) (k + 1) bits i (omega arith) in
      record {
        place = suc m.place;
        below = omega (arith, m.below);
        one = m.one;
        is = m.is ∙ ap₂ (marker_at w h) (omega arith) (omega arith);
      }

  -- "in raster order": of two markers the later one is that of a later bit.
  pub record OfBits (bits : List ℕ) (n k i j : ℕ) : Type 0 where
    pub place : ℕ
    pub later : ℕ
    pub order : place < later
    pub below : later < length bits
    pub is : get_or (markers_from w h n k bits) i blank ≡ marker_at w h (n + i) (k + place)
    pub later_is : get_or (markers_from w h n k bits) j blank ≡ marker_at w h (n + j) (k + later)

  pub markers_order : (n k : ℕ) (bits : List ℕ) (i j : ℕ) → i < j → j < ones bits → OfBits bits n k i j
  unfolding markers_from ones
  markers_order n k [] i j o l = absurd (omega arith)
  markers_order n k (zero ∷ bits) i j o l =
      let m = markers_order n (k + 1) bits i j o l in
      record {
        place = suc m.place;
        later = suc m.later;
        order = omega (arith, m.order);
        below = omega (arith, m.below);
        is = m.is ∙ ap (marker_at w h (n + i)) (omega arith);
        later_is = m.later_is ∙ ap (marker_at w h (n + j)) (omega arith);
      }
  markers_order n k (suc b ∷ bits) i zero o l = absurd (omega arith)
  markers_order n k (suc b ∷ bits) zero (suc j) o l =
      let m = marker_of (n + 1) (k + 1) bits j (omega arith) in
      record {
        place = 0;
        later = suc m.place;
        order = omega arith;
        below = omega (arith, m.below);
        is = ap₂ (marker_at w h) (omega arith) (omega arith);
        later_is = m.is ∙ ap₂ (marker_at w h) (omega arith) (omega arith);
      }
  markers_order n k (suc b ∷ bits) (suc i) (suc j) o l =
      let m = markers_order (n + 1) (k + 1) bits i j (omega arith) (omega arith) in
      record {
        place = suc m.place;
        later = suc m.later;
        order = omega (arith, m.order);
        below = omega (arith, m.below);
        is = m.is ∙ ap₂ (marker_at w h) (omega arith) (omega arith);
        later_is = m.later_is ∙ ap₂ (marker_at w h) (omega arith) (omega arith);
      }

  -- The place-th bit has a marker.
  pub record HasMarker (bits : List ℕ) (n k place : ℕ) : Type 0 where
    pub slot : ℕ
    pub below : slot < ones bits
    pub is : get_or (markers_from w h n k bits) slot blank ≡ marker_at w h (n + slot) (k + place)

  pub of_marker : (n k : ℕ) (bits : List ℕ) (place : ℕ) → place < length bits → 1 ≤ get_or bits place 0 → HasMarker bits n k place
  unfolding markers_from ones
  of_marker n k [] place l o = absurd (omega arith)
  of_marker n k (zero ∷ bits) zero l o = absurd (omega arith)
  of_marker n k (zero ∷ bits) (suc place) l o =
      let m = of_marker n (k + 1) bits place (omega arith) o in
      record { slot = m.slot; below = m.below; is = m.is ∙ ap (marker_at w h (n + m.slot)) (omega arith) }
  of_marker n k (suc b ∷ bits) zero l o = record { slot = 0; below = omega arith; is = ap₂ (marker_at w h) (omega arith) (omega arith) }
  of_marker n k (suc b ∷ bits) (suc place) l o =
      let m = of_marker (n + 1) (k + 1) bits place (omega arith) o in
      record { slot = suc m.slot; below = omega (arith, m.below); is = m.is ∙ ap₂ (marker_at w h) (omega arith) (omega arith) }
