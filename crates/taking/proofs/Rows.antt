-- Rows of a sheet. What a row's bytes show is what the sheet marks, so a crossing judged from its
-- own row and those beside it is judged as the sheet has it. Past the edge nothing is marked.
use mathlib.Core.Path.{◌≡◌, refl, sym, ap, ◌∙◌}
use mathlib.Core.List.{List}
use mathlib.Core.Logic.{◌↔◌}
use Prim.Native.Nat.{ℕ, zero, suc, ◌+◌, ◌*◌, ◌-◌, ◌<◌, ◌≤◌}
use native.Mathlib.Omega.{arith}
use native.Mathlib.Decide.{dec_lt}
use native.Mathlib.Nat.{mul-le-mul_right}
use lib.ListN.{length, get_or, take, drop, replicate, length-drop, length-replicate, get_or-eq_default}
use lib.Seq.{length-take-le, get_or-take, get_or-drop}
use borrow.Author.Tests.{lt-ltb}
use Rattle.field.specs.Map.{On, at}
use Rattle.field.specs.Workings.Sheet.{lit, west_of, south_of, around}
use Rattle.field.proofs.Workings.Marks.{unmarked_lit, south_at}
use Rattle.field.specs.Workings.MorningLaws.{Kept}
use Rattle.taking.specs.Faults.{shown_by, west_in, GoodAt, IsRow}

shown_none : shown_by 0 ≡ 0
unfolding shown_by
shown_none = refl

-- A row of zeros, as the code takes it from the front of a longer one.
abbrev zeros : ℕ → List ℕ
zeros n = replicate n 0

pub zeros_long : (n w : ℕ) → w ≤ n → length (take w (zeros n)) ≡ w
zeros_long n w l = length-take-le w (zeros n) (omega (arith, length-replicate {A = ℕ} n 0))

pub zeros_all : (n w i : ℕ) → get_or (take w (zeros n)) i 0 ≡ 0
zeros_all zero zero i = refl
zeros_all zero (suc w) i = refl
zeros_all (suc n) zero i = refl
zeros_all (suc n) (suc w) zero = refl
zeros_all (suc n) (suc w) (suc i) = zeros_all n w i

-- Where row y ends.
pub row_end : (y h w : ℕ) → y < h → y * w + w ≤ h * w
row_end y h w l = omega (arith, mul-le-mul_right {m = suc y} {n = h} w l)

module _ (w h : ℕ) (s : List ℕ) where
  lit_on : (x y : ℕ) → On w h x y → shown_by (at s w x y) ≡ lit s w h x y
  unfolding lit shown_by
  lit_on x y o = sym (simp (lt-ltb x w o.in_x, lt-ltb y h o.in_y))

  lit_off : (x y : ℕ) → ¬ On w h x y → lit s w h x y ≡ 0
  lit_off x y n = unmarked_lit s w h x y (λ m. n m.on)

  -- The part of the sheet from the row's first crossing to its last is the row.
  pub part_row : (y start end : ℕ) → length s ≡ h * w → y < h → start ≡ y * w → end ≡ start + w → IsRow w h s y (take (end - start) (drop start s))
  part_row y start end size l p q = record { long = long; byte = byte; shows = λ x. go x (dec_lt x w) }
    where
      inside : w ≤ length (drop start s)
      inside = omega (arith, length-drop start s, row_end y h w l, size)

      wide : end - start ≡ w
      wide = omega arith

      long : length (take (end - start) (drop start s)) ≡ w
      long = length-take-le (end - start) (drop start s) (omega (arith, inside)) ∙ wide

      byte : (x : ℕ) → x < w → get_or (take (end - start) (drop start s)) x 0 ≡ at s w x y
      byte x m =
          get_or-take (end - start) (drop start s) x 0 (omega arith) ∙ get_or-drop start s x 0 ∙ ap (λ (k : ℕ). get_or s (k + x) 0) p

      go : (x : ℕ) → Dec (x < w) → shown_by (get_or (take (end - start) (drop start s)) x 0) ≡ lit s w h x y
      go x (yes m) = ap shown_by (byte x m) ∙ lit_on x y (record { in_x = m; in_y = l })
      go x (no m) =
          ap shown_by (get_or-eq_default (take (end - start) (drop start s)) 0 {n = x} (omega (arith, long))) ∙ shown_none
          ∙ sym (lit_off x y (λ o. m o.in_x))

  -- What the row to the north shows, and the row to the south: a row of the sheet, or zeros past
  -- the edge.
  pub record North (y : ℕ) (row : List ℕ) : Type 0 where
    pub shows : (x : ℕ) → shown_by (get_or row x 0) ≡ lit s w h x (y + 1)

  pub record South (y : ℕ) (row : List ℕ) : Type 0 where
    pub shows : (x : ℕ) → shown_by (get_or row x 0) ≡ south_of s w h x y

  module _ (none : List ℕ) (zeros : (i : ℕ) → get_or none i 0 ≡ 0) where
    pub north_edge : (y : ℕ) → h ≤ y + 1 → North y none
    north_edge y l =
        record { shows = λ x. ap shown_by (zeros x) ∙ shown_none ∙ sym (lit_off x (y + 1) (λ o. omega (arith, o.in_y))) }

    pub south_edge : (y : ℕ) → y ≡ 0 → South y none
    unfolding south_of
    south_edge zero e = record { shows = λ x. ap shown_by (zeros x) ∙ shown_none }
    south_edge (suc y) e = absurd (omega arith)

  pub north_row : {y : ℕ} {row : List ℕ} → IsRow w h s (y + 1) row → North y row
  north_row r = record { shows = r.shows }

  pub south_row : {y : ℕ} {row : List ℕ} → ¬ (y ≡ 0) → IsRow w h s (y - 1) row → South y row
  south_row {y} n r = record { shows = λ x. r.shows x ∙ sym (south_at s w h x y (y - 1) (omega arith)) }

  -- West of a crossing in its row.
  west_row : {y : ℕ} {here : List ℕ} → IsRow w h s y here → (x : ℕ) → shown_by (west_in here x) ≡ west_of s w h x y
  unfolding west_of
  west_row r zero = shown_none
  west_row r (suc x) = r.shows x

  -- So a crossing is judged as the sheet has it.
  pub good_kept : {y : ℕ} {south here north : List ℕ} → South y south → IsRow w h s y here → North y north → (x : ℕ) → x < w
      → (GoodAt south here north x ↔ Kept w h s x y)
  unfolding around
  good_kept {y} {south} {here} {north} below row above x l = (
    λ g. record { byte = omega (arith, g.byte, row.byte x l); few = λ z. omega (arith, g.few (omega (arith, row.byte x l)), sums) },
    λ k. record { byte = omega (arith, k.byte, row.byte x l); few = λ z. omega (arith, k.few (omega (arith, row.byte x l)), sums) },
  )
    where
      sums : (shown_by (get_or here (x + 1) 0) ≡ lit s w h (x + 1) y) × (shown_by (west_in here x) ≡ west_of s w h x y)
          × (shown_by (get_or north x 0) ≡ lit s w h x (y + 1)) × (shown_by (get_or south x 0) ≡ south_of s w h x y)
      sums = (row.shows (x + 1), west_row row x, above.shows x, below.shows x)

  -- The row's faults are the sheet's.
  pub row_kept : {y r : ℕ} {south here north : List ℕ} → South y south → IsRow w h s y here → North y north
      → ((r ≡ 0) ↔ ((x : ℕ) → x < length here → GoodAt south here north x)) → ((r ≡ 0) ↔ ((x : ℕ) → x < w → Kept w h s x y))
  row_kept below row above told = (
    λ z x l. (good_kept below row above x l).0 (told.0 z x (omega (arith, row.long))),
    λ f. told.1 (λ x l. (good_kept below row above x (omega (arith, row.long))).1 (f x (omega (arith, row.long)))),
  )
