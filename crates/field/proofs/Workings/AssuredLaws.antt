-- Open crossings and assurance: the tests on a sheet of the closed crossings tell exactly what the
-- meanings say, so both can be decided. An axis is looked at by itself, over any two ways, and
-- serves for east-west and north-south.
use Rattle.std.specs.Prelude.{◌≡◌, refl, ◌&&◌, List, ◌↔◌, ℕ, ◌<◌, ltb}
use Rattle.std.proofs.Common.{sym, ◌∙◌, arith}
use Rattle.std.proofs.Math.Bool.{Bool, true}
use Rattle.std.proofs.Math.Dec.{eqb}
use borrow.Author.Tests.{ltb-true, lt-ltb, le-ltb, leb-true, le-leb, eqb-true, eq-eqb, ne_eqb}
use Rattle.field.specs.Map.{On, gap, no_distance}
use Rattle.field.specs.Labels.{Open}
use Rattle.field.specs.Distances.{Way, eastward, southward, westward, northward, Clear, Enough, nothing_that_way, at_most, Axis, level, above, below, Assured}
use Rattle.field.specs.Workings.Tests.{and_split, and_both, or_case, or_left, or_right, test_dec}
use Rattle.field.specs.Workings.Sheet.{Draws, lit}
use Rattle.field.proofs.Workings.Marks.{drawn_lit, undrawn_lit}
use Rattle.field.specs.Workings.Looking.{clear_of, enough_of, axis_of, open_of, assured_of}
use Rattle.field.proofs.Workings.AxisLaws.{Order, less, same, more, order}
use Rattle.field.proofs.Workings.ClearLaws.{clear_looks}

-- The one law that opens the comparison of the offset with home's distance.
pub enough_looks : (offset n : ℕ) → (Enough offset n ↔ enough_of offset n ≡ true)
unfolding enough_of
enough_looks offset n = (passes, or_case (eqb n no_distance) _ (λ e. nothing_that_way (eqb-true _ _ e)) (λ e. at_most (leb-true _ _ e)))
  where
    passes : Enough offset n → enough_of offset n ≡ true
    passes (nothing_that_way e) = or_left _ _ (eq-eqb _ _ e)
    passes (at_most l) = or_right (eqb n no_distance) _ (le-leb _ _ l)

-- An axis: at home's own place, above it, below it.
pub axis_level : (u d m p : ℕ) → p ≡ m → axis_of u d m p ≡ true
unfolding axis_of
axis_level u d m p e = or_left _ _ (eq-eqb p m e)

pub axis_above : (u d m p : ℕ) → m < p → axis_of u d m p ≡ enough_of (gap m p) u
unfolding axis_of
axis_above u d m p l = rw (ne_eqb p m (omega arith), lt-ltb m p l)

pub axis_below : (u d m p : ℕ) → p < m → axis_of u d m p ≡ enough_of (gap m p) d
unfolding axis_of
axis_below u d m p l = rw (ne_eqb p m (omega arith), le-ltb m p (omega arith))

-- u and d are home's distances upwards and downwards.
pub axis_looks : (D : Way → ℕ → Type 0) (up down : Way) (u d m p : ℕ) → ((n : ℕ) → D up n ↔ n ≡ u) → ((n : ℕ) → D down n ↔ n ≡ d)
    → (Axis D up down m p ↔ axis_of u d m p ≡ true)
axis_looks D up down u d m p f g = (passes, λ e. holds e (order m p))
  where
    passes : Axis D up down m p → axis_of u d m p ≡ true
    passes (level e) = axis_level u d m p e
    passes (above l n k t) = axis_above u d m p l ∙ (enough_looks (gap m p) u).0 (rw ((f n).0 k) at t)
    passes (below l n k t) = axis_below u d m p l ∙ (enough_looks (gap m p) d).0 (rw ((g n).0 k) at t)

    holds : axis_of u d m p ≡ true → Order m p → Axis D up down m p
    holds e (less l) = above l u ((f u).1 refl) ((enough_looks (gap m p) u).1 (sym (axis_above u d m p l) ∙ e))
    holds e (same l) = level (sym l)
    holds e (more l) = below l d ((g d).1 refl) ((enough_looks (gap m p) d).1 (sym (axis_below u d m p l) ∙ e))

module _ (w h : ℕ) (C : ℕ → ℕ → Type 0) (s : List ℕ) (D : Draws w h C s) where
  pub open_looks : (x y : ℕ) → (Open w h C x y ↔ open_of s w h x y ≡ true)
  unfolding open_of
  open_looks x y = (passes, holds)
    where
      passes : Open w h C x y → (ltb x w && (ltb y h && eqb (lit s w h x y) 0)) ≡ true
      passes o = simp (lt-ltb x w o.on.in_x, lt-ltb y h o.on.in_y, undrawn_lit w h C s D x y o.free)

      holds : (ltb x w && (ltb y h && eqb (lit s w h x y) 0)) ≡ true → Open w h C x y
      holds e =
          let a = and_split _ _ e in
          let b = and_split _ _ a.1 in
          let z : lit s w h x y ≡ 0 = eqb-true (lit s w h x y) 0 b.1 in
          record {
            on = record { in_x = ltb-true x w a.0; in_y = ltb-true y h b.0 };
            free = λ c. omega (arith, drawn_lit w h C s D x y c);
          }

  pub open_dec : (x y : ℕ) → Dec (Open w h C x y)
  open_dec x y = test_dec (open_of s w h x y) (open_looks x y)

  -- Home's distances on one axis are those that looking finds.
  clear_axis : (hx hy : ℕ) → On w h hx hy → (up down : Way) (m p : ℕ)
      → (Axis (λ t n. Clear C t hx hy n) up down m p ↔ axis_of (clear_of up s w h hx hy) (clear_of down s w h hx hy) m p ≡ true)
  clear_axis hx hy o up down m p =
      axis_looks (λ t n. Clear C t hx hy n) up down (clear_of up s w h hx hy) (clear_of down s w h hx hy) m p
      (λ n. clear_looks w h C s D up hx hy n o) (λ n. clear_looks w h C s D down hx hy n o)

  pub assured_looks : (hx hy x y : ℕ) → (Assured w h C hx hy x y ↔ assured_of s w h hx hy x y ≡ true)
  unfolding assured_of
  assured_looks hx hy x y = (passes, holds)
    where
      row_test : Bool
      row_test = axis_of (clear_of eastward s w h hx hy) (clear_of westward s w h hx hy) hx x

      column_test : Bool
      column_test = axis_of (clear_of northward s w h hx hy) (clear_of southward s w h hx hy) hy y

      passes : Assured w h C hx hy x y → (open_of s w h hx hy && (open_of s w h x y && (row_test && column_test))) ≡ true
      passes a =
          and_both _ _ ((open_looks hx hy).0 a.home)
          (and_both _ _ ((open_looks x y).0 a.place)
          (and_both row_test column_test ((clear_axis hx hy a.home.on eastward westward hx x).0 a.east_west)
          ((clear_axis hx hy a.home.on northward southward hy y).0 a.north_south)))

      holds : (open_of s w h hx hy && (open_of s w h x y && (row_test && column_test))) ≡ true → Assured w h C hx hy x y
      holds e =
          let a = and_split _ _ e in
          let b = and_split _ _ a.1 in
          let c = and_split _ _ b.1 in
          let o = (open_looks hx hy).1 a.0 in
          record {
            home = o;
            place = (open_looks x y).1 b.0;
            east_west = (clear_axis hx hy o.on eastward westward hx x).1 c.0;
            north_south = (clear_axis hx hy o.on northward southward hy y).1 c.1;
          }

  pub assured_dec : (hx hy x y : ℕ) → Dec (Assured w h C hx hy x y)
  assured_dec hx hy x y = test_dec (assured_of s w h hx hy x y) (assured_looks hx hy x y)
