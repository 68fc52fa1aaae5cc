-- The markers of a map file stand exactly on its rocks, all on the map, with ids rising from 1: a
-- marker for each crossing whose bit is 1.
use Rattle.std.specs.Prelude.{◌≡◌, List, ◌↔◌, ℕ, zero, suc, ◌+◌, ◌*◌, ◌-◌, ◌/◌, ◌%◌, ◌<◌, ◌≤◌, length}
use Rattle.std.proofs.Math.Path.{sym, ap, ap₂}
use Rattle.std.proofs.Common.{◌∙◌, mod-lt, div-lt_iff_lt-mul}
use native.Mathlib.Omega.{arith}
use Rattle.std.proofs.Math.Nat.{div-add-mod'}
use Rattle.std.proofs.Math.Decide.{dec_lt}
use Rattle.std.proofs.Math.Arith.{digits_div, digits_mod}
use Rattle.std.proofs.Math.ListN.{get_or, get_or-eq_default}
use Rattle.field.specs.declared.Marker.{Marker}
use Rattle.field.specs.Map.{Sides, On, tallest}
use Rattle.field.specs.Labels.{Rock, blank}
use Rattle.field.specs.Workings.Sheet.{number_lt, Crossing, crossing}
use Rattle.mapfile.specs.Raster.{packed_bit, RawRaster, Digits, ended, skip, zero_digit, one_digit}
use Rattle.mapfile.specs.File.{Format, plain, raw, Raster, MapFile, raster_place, FileRock, markers_of}
use Rattle.mapfile.specs.MarkerLaws.{ones, ones-le, marker_at, markers_length, marker_of, markers_order, of_marker}

-- Every number of the list is 0 or 1.
abbrev pub AreBits : List ℕ → Type 0
AreBits bits = (k : ℕ) → get_or bits k 0 ≤ 1

digits_bits : {bits l : List ℕ} → Digits bits l → AreBits bits
digits_bits (ended p q) k = rw p (omega arith)
digits_bits (skip b s d e) k = digits_bits d k
digits_bits (zero_digit d p e) zero = rw p (omega arith)
digits_bits (zero_digit d p e) (suc k) = rw p (digits_bits d k)
digits_bits (one_digit d p e) zero = rw p (omega arith)
digits_bits (one_digit d p e) (suc k) = rw p (digits_bits d k)

raw_bits_lem : {w h : ℕ} {l bits : List ℕ} → RawRaster w h l bits → AreBits bits
unfolding packed_bit
raw_bits_lem {w} {h} {l} {bits} r k = go (dec_lt k (h * w))
  where
    at_crossing : Crossing w h k → get_or bits k 0 ≤ 1
    at_crossing c =
        omega (arith, ap (λ (i : ℕ). get_or bits i 0) c.is, r.bit c.y c.x c.on.in_y c.on.in_x)

    go : Dec (k < h * w) → get_or bits k 0 ≤ 1
    go (yes l) = at_crossing (crossing w h k l)
    go (no l) = omega (arith, get_or-eq_default bits 0 {n = k} (omega (arith, r.crossings)))

pub raster_bits : (f : Format) (w h : ℕ) (l bits : List ℕ) → Raster f w h l bits → AreBits bits
raster_bits plain w h l bits r = digits_bits r.digits
raster_bits raw w h l bits r = raw_bits_lem r

pub raster_crossings : (f : Format) (w h : ℕ) (l bits : List ℕ) → Raster f w h l bits → length bits ≡ h * w
raster_crossings plain w h l bits r = r.crossings
raster_crossings raw w h l bits r = r.crossings

module _ {w h : ℕ} (sides : Sides w h) where
  -- The crossing of the k-th bit is on the map, and k is its place in the raster.
  bit_on : (k : ℕ) → On w h (k % w) (h - (k / w + 1))
  bit_on k = record { in_x = mod-lt k sides.some_w; in_y = omega (arith, sides.some_h) }

  bit_place : (k : ℕ) → k < h * w → raster_place w h (k % w) (h - (k / w + 1)) ≡ k
  unfolding raster_place
  bit_place k l =
      let low : k / w < h = (div-lt_iff_lt-mul {k = w} {x = k} {y = h} sides.some_w).1 l in
      ap (λ (r : ℕ). r * w + k % w) (back low) ∙ div-add-mod' k w
    where
      back : k / w < h → h - (h - (k / w + 1) + 1) ≡ k / w
      back m = omega arith

  -- The place of a crossing, and the crossing of that place.
  place_below : (x y : ℕ) → On w h x y → raster_place w h x y < h * w
  unfolding raster_place
  place_below x y o =
      omega (arith, number_lt w h x (h - (y + 1)) (record { in_x = o.in_x; in_y = omega (arith, o.in_y, sides.some_h) }))

  place_x : (x y : ℕ) → On w h x y → raster_place w h x y % w ≡ x
  unfolding raster_place
  place_x x y o = digits_mod (h - (y + 1)) o.in_x

  place_y : (x y : ℕ) → On w h x y → h - (raster_place w h x y / w + 1) ≡ y
  unfolding raster_place
  place_y x y o = ap (λ (r : ℕ). h - (r + 1)) (digits_div (h - (y + 1)) o.in_x) ∙ there o.in_y
    where
      there : y < h → h - (h - (y + 1) + 1) ≡ y
      there m = omega arith

module _ {w h : ℕ} (bits : List ℕ) (sides : Sides w h) (long : length bits ≡ h * w) where
  pub markers_count : length (markers_of w h bits) ≡ ones bits
  unfolding markers_of
  markers_count = markers_length w h 1 0 bits

  -- At most one marker a crossing.
  pub markers_few : length (markers_of w h bits) ≤ h * w
  markers_few = omega (arith, markers_count, ones-le bits)

  -- The i-th marker is that of the k-th bit, which is not 0.
  abbrev TheMarker : ℕ → Type 0
  TheMarker i = (k : ℕ) × (k < length bits) × (1 ≤ get_or bits k 0) × (get_or (markers_of w h bits) i blank ≡ marker_at w h (i + 1) k)

  the_marker : (i : ℕ) → i < length (markers_of w h bits) → TheMarker i
  unfolding markers_of
  the_marker i l =
      let m = marker_of w h 1 0 bits i (omega (arith, markers_count)) in
      (m.place, m.below, m.one, m.is ∙ ap₂ (marker_at w h) (omega arith) (omega arith))

  -- Ids 1, 2, 3 and on.
  pub marker_id : (i : ℕ) → i < length (markers_of w h bits) → (get_or (markers_of w h bits) i blank).id ≡ i + 1
  marker_id i l = ap (λ (m : Marker). m.id) (the_marker i l).3

  -- All as high as any.
  pub marker_tall : (i : ℕ) → i < length (markers_of w h bits) → (get_or (markers_of w h bits) i blank).height ≡ tallest
  marker_tall i l = ap (λ (m : Marker). m.height) (the_marker i l).3

  -- All on the map.
  pub marker_on : (i : ℕ) → i < length (markers_of w h bits)
      → On w h (get_or (markers_of w h bits) i blank).x (get_or (markers_of w h bits) i blank).y
  marker_on i l = let m = the_marker i l in rw m.3 (bit_on sides m.0)

  -- No two on one crossing: they are those of two bits, and a crossing has one place in the raster.
  pub markers_apart : (i j : ℕ) → i < j → j < length (markers_of w h bits)
      → (get_or (markers_of w h bits) i blank).x ≡ (get_or (markers_of w h bits) j blank).x
      → (get_or (markers_of w h bits) i blank).y ≡ (get_or (markers_of w h bits) j blank).y → ⊥
  unfolding markers_of
  markers_apart i j o l p q =
      let m = markers_order w h 1 0 bits i j o (omega (arith, markers_count)) in
      let a : m.place % w ≡ m.later % w = sym (x_of i m.place m.is) ∙ p ∙ x_of j m.later m.later_is in
      let b : h - (m.place / w + 1) ≡ h - (m.later / w + 1) = sym (y_of i m.place m.is) ∙ q ∙ y_of j m.later m.later_is in
      let first = bit_place sides m.place (omega (arith, m.order, m.below)) in
      let second = bit_place sides m.later (omega (arith, m.below)) in
      omega (arith, m.order, first, second, ap₂ (raster_place w h) a b)
    where
      x_of : (t k : ℕ) → get_or (markers_of w h bits) t blank ≡ marker_at w h (1 + t) (0 + k) → (get_or (markers_of w h bits) t blank).x ≡ k % w
      x_of t k e = ap (λ (n : Marker). n.x) e ∙ ap (λ (c : ℕ). c % w) (omega arith)

      y_of : (t k : ℕ) → get_or (markers_of w h bits) t blank ≡ marker_at w h (1 + t) (0 + k) → (get_or (markers_of w h bits) t blank).y ≡ h - (k / w + 1)
      y_of t k e = ap (λ (n : Marker). n.y) e ∙ ap (λ (c : ℕ). h - (c / w + 1)) (omega arith)

  -- On the file's rocks, and on every one.
  rock_file : AreBits bits → (clearance x y : ℕ) → Rock clearance (markers_of w h bits) x y → FileRock w h bits x y
  rock_file are clearance x y r = found (the_marker r.slot r.in_use)
    where
      found : TheMarker r.slot → FileRock w h bits x y
      found m =
          let a : m.0 % w ≡ x = sym (ap (λ (n : Marker). n.x) m.3) ∙ r.x_is in
          let b : h - (m.0 / w + 1) ≡ y = sym (ap (λ (n : Marker). n.y) m.3) ∙ r.y_is in
          rw (← a, ← b)
          (record {
            on = bit_on sides m.0;
            one = ap (λ (i : ℕ). get_or bits i 0) (bit_place sides m.0 (omega (arith, m.1))) ∙ one_of (are m.0) m.2;
          })
        where
          one_of : {a : ℕ} → a ≤ 1 → 1 ≤ a → a ≡ 1
          one_of p q = omega arith

  file_rock : (clearance x y : ℕ) → clearance < tallest → FileRock w h bits x y → Rock clearance (markers_of w h bits) x y
  unfolding markers_of
  file_rock clearance x y low f =
      let m = of_marker w h 1 0 bits (raster_place w h x y) (omega (arith, place_below sides x y f.on)) (omega (arith, f.one)) in
      let is : get_or (markers_of w h bits) m.slot blank ≡ marker_at w h (1 + m.slot) (raster_place w h x y) = m.is ∙ ap (marker_at w h (1 + m.slot)) (omega arith) in
      record {
        slot = m.slot;
        in_use = omega (arith, m.below, markers_count);
        x_is = ap (λ (n : Marker). n.x) is ∙ place_x sides x y f.on;
        y_is = ap (λ (n : Marker). n.y) is ∙ place_y sides x y f.on;
        stops = omega (arith, ap (λ (n : Marker). n.height) is);
      }

  pub markers_rocks : AreBits bits → (clearance x y : ℕ) → clearance < tallest → Rock clearance (markers_of w h bits) x y ↔ FileRock w h bits x y
  markers_rocks are clearance x y low = (rock_file are clearance x y, file_rock clearance x y low)

-- The markers read from a map file stand exactly on the file's rocks, and stop every cart but one
-- whose clearance is as high as any marker.
pub markers_of_lem : {file bits : List ℕ} {w h : ℕ} → MapFile file w h bits → (clearance x y : ℕ) → clearance < tallest
    → Rock clearance (markers_of w h bits) x y ↔ FileRock w h bits x y
markers_of_lem {file} {bits} {w} {h} m =
    markers_rocks bits m.sides (raster_crossings m.format w h m.body bits m.raster) (raster_bits m.format w h m.body bits m.raster)
