-- The markers of a map by its bits in raster order: the k-th marker is that of the first rock past
-- k rocks.
use Rattle.std.specs.Prelude.{◌≡◌, List, [], ◌∷◌, length, get_or, take}
use Rattle.std.proofs.Math.Path.{refl, sym, ap₂}
use Rattle.std.proofs.Common.{ap, subst, ◌∙◌, arith, add-one, take-suc, get_or-take, length-take-le}
use Prim.Native.Nat.{ℕ, zero, suc, ◌+◌, ◌*◌, ◌-◌, ◌<◌, ◌≤◌, zero-le}
use Rattle.std.proofs.Math.Decide.{dec_lt}
use Rattle.field.specs.declared.Marker.{Marker}
use Rattle.field.specs.Labels.{blank}
use Rattle.markers.specs.List.{slot}
use Rattle.mapfile.specs.File.{markers_from, markers_of}
use Rattle.mapfile.specs.MarkerLaws.{ones, ones_append, marker_at, markers_length}
use Rattle.exchange.specs.Promise.{RockAhead, NextRock, MayMark}
use Rattle.layer.specs.Files.{MayPut}

-- No more markers are put than the map has. Where none is to be put, that asks nothing.
pub put_had : {list : List Marker} {count w h : ℕ} {bits : List ℕ} → (1 ≤ count → MayPut list count w h bits) → count ≤ length (markers_of w h (take (h * w) bits))
put_had {count = zero} may = zero-le
put_had {count = suc n} may = omega (arith, (may (omega arith)).counted)

-- k rocks stand before the i-th bit.
pub record RocksPassed (bits : List ℕ) (i k : ℕ) : Type 0 where
  pub within : i ≤ length bits
  pub rocks : ones (take i bits) ≡ k

pub passed_none : (bits : List ℕ) → RocksPassed bits 0 0
unfolding ones
passed_none bits = record { within = zero-le; rocks = refl }

-- One bit more: it is no rock, or it is one.
module _ (bits : List ℕ) (i : ℕ) (l : i < length bits) where
  more : ones (take (i + 1) bits) ≡ ones (take i bits) + ones (get_or bits i 0 ∷ [])
  more = ap (λ (n : ℕ). ones (take n bits)) (add-one i) ∙ ap ones (take-suc bits i 0 l) ∙ ones_append (take i bits) (get_or bits i 0 ∷ [])

  one_bare : (b : ℕ) → b ≡ 0 → ones (b ∷ []) ≡ 0
  unfolding ones
  one_bare zero e = refl
  one_bare (suc b) e = absurd (omega arith)

  one_rock : (b : ℕ) → ¬ (b ≡ 0) → ones (b ∷ []) ≡ 1
  unfolding ones
  one_rock zero n = absurd (n refl)
  one_rock (suc b) n = refl

  passed_bare : {k : ℕ} → get_or bits i 0 ≡ 0 → RocksPassed bits i k → RocksPassed bits (i + 1) k
  passed_bare e p = record { within = omega arith; rocks = omega (arith, more, one_bare (get_or bits i 0) e, p.rocks) }

  passed_rock : {k : ℕ} → ¬ (get_or bits i 0 ≡ 0) → RocksPassed bits i k → RocksPassed bits (i + 1) (k + 1)
  passed_rock n p = record { within = omega arith; rocks = omega (arith, more, one_rock (get_or bits i 0) n, p.rocks) }

-- Past bits that are no rocks.
passed_on : {bits : List ℕ} {k : ℕ} (i d : ℕ) → i + d ≤ length bits → ((j : ℕ) → i ≤ j → j < i + d → get_or bits j 0 ≡ 0) → RocksPassed bits i k → RocksPassed bits (i + d) k
passed_on {bits} {k} i zero l z p = subst (λ (n : ℕ). RocksPassed bits n k) (omega arith) p
passed_on {bits} {k} i (suc d) l z p =
    subst (λ (n : ℕ). RocksPassed bits n k) (omega arith)
    (passed_bare bits (i + d) (omega arith) (z (i + d) (omega arith) (omega arith)) (passed_on i d (omega arith) (λ j a b. z j a (omega arith)) p))

-- Where not all rocks are passed, one is ahead.
some_ahead : (bits : List ℕ) (i : ℕ) → ones (take i bits) < ones bits → RockAhead bits i
unfolding ones
some_ahead [] i l = absurd (go i l)
  where
    go : (i : ℕ) → ones (take i []) < 0 → ⊥
    go zero m = omega arith
    go (suc i) m = omega arith
some_ahead (zero ∷ bits) zero l =
    let r = some_ahead bits zero l in
    record { place = suc r.place; ahead = zero-le; below = omega (arith, r.below); rock = r.rock }
some_ahead (suc b ∷ bits) zero l = record { place = 0; ahead = zero-le; below = omega arith; rock = λ e. omega arith }
some_ahead (zero ∷ bits) (suc i) l =
    let r = some_ahead bits i l in
    record { place = suc r.place; ahead = omega (arith, r.ahead); below = omega (arith, r.below); rock = r.rock }
some_ahead (suc b ∷ bits) (suc i) l =
    let r = some_ahead bits i (omega arith) in
    record { place = suc r.place; ahead = omega (arith, r.ahead); below = omega (arith, r.below); rock = r.rock }

-- The marker of a rock stands in the slot that is numbered by the rocks before it.
rock_slot : (w h n k : ℕ) (bits : List ℕ) (at : ℕ) → at < length bits → ¬ (get_or bits at 0 ≡ 0)
    → get_or (markers_from w h n k bits) (ones (take at bits)) blank ≡ marker_at w h (n + ones (take at bits)) (k + at)
unfolding markers_from ones
rock_slot w h n k [] at l r = absurd (omega arith)
rock_slot w h n k (zero ∷ bits) zero l r = absurd (r refl)
rock_slot w h n k (suc b ∷ bits) zero l r = ap₂ (marker_at w h) (omega arith) (omega arith)
rock_slot w h n k (zero ∷ bits) (suc at) l r = rock_slot w h n (k + 1) bits at (omega arith) r ∙ ap (marker_at w h (n + ones (take at bits))) (omega arith)
rock_slot w h n k (suc b ∷ bits) (suc at) l r = rock_slot w h (n + 1) (k + 1) bits at (omega arith) r ∙ ap₂ (marker_at w h) (omega arith) (omega arith)

-- The bits of a map, at the front of the bytes: the next rock past k of them.
module _ {list : List Marker} {w h count : ℕ} {bits : List ℕ} (c : MayPut list count w h bits) {i k : ℕ} (less : k < count) (p : RocksPassed (take (h * w) bits) i k) where
  map_length : length (take (h * w) bits) ≡ h * w
  map_length = length-take-le (h * w) bits c.all

  map_bit : (j : ℕ) → j < h * w → get_or (take (h * w) bits) j 0 ≡ get_or bits j 0
  map_bit j l = get_or-take (h * w) bits j 0 l

  on_map : RockAhead (take (h * w) bits) i
  unfolding markers_of
  on_map = some_ahead (take (h * w) bits) i (omega (arith, p.rocks, c.counted, markers_length w h 1 0 (take (h * w) bits)))

  pub rock_ahead : RockAhead bits i
  rock_ahead =
      record {
        place = on_map.place;
        ahead = on_map.ahead;
        below = omega (arith, on_map.below, map_length, c.all);
        rock = λ e. on_map.rock (map_bit on_map.place (omega (arith, on_map.below, map_length)) ∙ e);
      }

  module _ {at : ℕ} (next : NextRock bits i at) where
    pub next_below : at < h * w
    next_below = go (dec_lt on_map.place at)
      where
        go : Dec (on_map.place < at) → at < h * w
        go (yes l) = absurd (on_map.rock (map_bit on_map.place (omega (arith, on_map.below, map_length)) ∙ next.first on_map.place on_map.ahead l))
        go (no l) = omega (arith, on_map.below, map_length)

    inside : at < length (take (h * w) bits)
    inside = omega (arith, next_below, map_length)

    is_rock : ¬ (get_or (take (h * w) bits) at 0 ≡ 0)
    is_rock e = next.rock (sym (map_bit at next_below) ∙ e)

    upto : RocksPassed (take (h * w) bits) at k
    upto = go (at - i) (omega (arith, next.ahead))
      where
        go : (d : ℕ) → i + d ≡ at → RocksPassed (take (h * w) bits) at k
        go d e =
            subst (λ (n : ℕ). RocksPassed (take (h * w) bits) n k) e
            (passed_on i d (omega (arith, inside)) (λ j a b. map_bit j (omega (arith, next_below)) ∙ next.first j a (omega arith)) p)

    pub passed_next : RocksPassed (take (h * w) bits) (at + 1) (k + 1)
    passed_next = passed_rock (take (h * w) bits) at inside is_rock upto

    pub may_mark : MayMark w h at k
    may_mark = record { on = next_below; few = omega (arith, c.few) }

    pub next_slot : marker_at w h (k + 1) at ≡ slot (markers_of w h (take (h * w) bits)) k
    unfolding markers_of
    next_slot =
        sym
        (ap (slot (markers_from w h 1 0 (take (h * w) bits))) (sym upto.rocks)
        ∙ rock_slot w h 1 0 (take (h * w) bits) at inside is_rock
        ∙ ap₂ (marker_at w h) (omega (arith, upto.rocks)) (omega arith))
