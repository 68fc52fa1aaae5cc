-- Laws of numbers and of looks at a sheet: what the tests of a hop towards an end come to.
use mathlib.Core.Path.{◌≡◌, refl, sym, ap, ◌∙◌}
use mathlib.Core.Bool.{Bool, true, false, not}
use mathlib.Core.List.{List}
use mathlib.Core.Logic.{◌↔◌, ◌≢◌}
use Prim.Native.Nat.{ℕ, zero, suc}
use Rattle.std.specs.Prelude.{nat_eq}
use native.Mathlib.Omega.{arith}
use lib.Dec.{ltb, eqb}
use borrow.Author.Tests.{ltb-true, lt-ltb, eq-eqb, ne_eqb}
use Rattle.field.specs.Map.{On, at}
use Rattle.field.specs.Workings.Tests.{off_looks}
use Rattle.field.specs.Workings.Sheet.{Marked, bit, lit}
use Rattle.field.proofs.Workings.Marks.{lit_marked, marked_lit}
use Rattle.field.specs.Workings.Looking.{hop_to}
use Rattle.field.specs.Workings.Reaching.{east_west_in, north_south_in}
use Rattle.regions.specs.Promise.{Ends}
use Rattle.regions.proofs.WayLaws.{hop_lt}

-- A mark is what is not 0.
some_mark : (v : ℕ) → not (nat_eq v 0) ≡ ltb 0 v
some_mark zero = refl
some_mark (suc v) = simp (ne_eqb (suc v) 0 (λ e. omega arith), lt-ltb 0 (suc v) (omega arith))

-- A mark on the map, as a test.
lit_on : (g : List ℕ) (w h x y : ℕ) → On w h x y → ltb 0 (lit g w h x y) ≡ ltb 0 (at g w x y)
unfolding lit
lit_on g w h x y o = simp (lt-ltb x w o.in_x, lt-ltb y h o.in_y) (bit_test (ltb 0 (at g w x y)))
  where
    bit_test : (t : Bool) → ltb 0 (bit t) ≡ t
    bit_test true = refl
    bit_test false = refl

-- The tests for a mark one hop along the row, and along the column, tell that there is such a hop
-- and that it leads to a mark.
marked_test : (g : List ℕ) (w h a b : ℕ) → Marked g w h a b ↔ ltb 0 (lit g w h a b) ≡ true
marked_test g w h a b = (λ m. lt-ltb 0 (lit g w h a b) (omega (arith, marked_lit g w h a b m)), λ e. lit_marked g w h a b (ltb-true _ _ e))

pub east_west_tells : (g : List ℕ) (w h ex x y : ℕ) → ((x ≢ ex) × Marked g w h (hop_to x ex) y) ↔ east_west_in g w h ex x y ≡ true
unfolding east_west_in
east_west_tells g w h ex x y = off_looks _ (marked_test g w h (hop_to x ex) y) x ex

pub north_south_tells : (g : List ℕ) (w h ey x y : ℕ) → ((y ≢ ey) × Marked g w h x (hop_to y ey)) ↔ north_south_in g w h ey x y ≡ true
unfolding north_south_in
north_south_tells g w h ey x y = off_looks _ (marked_test g w h x (hop_to y ey)) y ey

module _ {w h ex ey x y : ℕ} (k : Ends w h ex ey x y) where
  -- The hop towards an end stays on the map.
  pub row_hop_on : ¬ (x ≡ ex) → On w h (hop_to x ex) y
  row_hop_on n = record { in_x = hop_lt n k.to.in_x k.from.in_x; in_y = k.to.in_y }

  pub column_hop_on : ¬ (y ≡ ey) → On w h x (hop_to y ey)
  column_hop_on n = record { in_x = k.to.in_x; in_y = hop_lt n k.to.in_y k.from.in_y }

  -- What the two looks see is what their definitions look at.
  pub east_west_looks : (g : List ℕ) {a v : ℕ} → ¬ (x ≡ ex) → a ≡ hop_to x ex → v ≡ at g w a y → not (nat_eq v 0) ≡ east_west_in g w h ex x y
  unfolding east_west_in
  east_west_looks g n p q = rw (q, p, ne_eqb x ex n) (some_mark _ ∙ sym (lit_on g w h (hop_to x ex) y (row_hop_on n)))

  pub north_south_looks : (g : List ℕ) {b v : ℕ} → ¬ (y ≡ ey) → b ≡ hop_to y ey → v ≡ at g w x b → not (nat_eq v 0) ≡ north_south_in g w h ey x y
  unfolding north_south_in
  north_south_looks g n p q = rw (q, p, ne_eqb y ey n) (some_mark _ ∙ sym (lit_on g w h x (hop_to y ey) (column_hop_on n)))

module _ (g : List ℕ) (w h ex ey x y : ℕ) where
  pub east_west_off : x ≡ ex → not (nat_eq x ex) ≡ east_west_in g w h ex x y
  unfolding east_west_in
  east_west_off e = simp (eq-eqb x ex e)

  pub north_south_off : y ≡ ey → not (nat_eq y ey) ≡ north_south_in g w h ey x y
  unfolding north_south_in
  north_south_off e = simp (eq-eqb y ey e)

pub zero_bit : {v : ℕ} → v ≡ 0 → 1 ≡ bit (eqb v 0)
zero_bit {v} e = ap bit (sym (eq-eqb v 0 e))

pub other_bit : {v : ℕ} → ¬ (v ≡ 0) → 0 ≡ bit (eqb v 0)
other_bit {v} n = ap bit (sym (ne_eqb v 0 n))
