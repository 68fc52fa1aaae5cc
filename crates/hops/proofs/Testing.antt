-- The tests of the hop call, as the code makes them: a hop homeward stays on the map, and there a
-- crossing is open where it has no mark.
use mathlib.Core.Path.{◌≡◌, sym, ◌∙◌}
use mathlib.Core.Bool.{false}
use mathlib.Core.List.{List}
use mathlib.Core.Logic.{◌≢◌}
use Prim.Native.Nat.{ℕ, ◌<◌}
use native.Mathlib.Omega.{arith}
use native.Mathlib.Decide.{dec_lt}
use lib.Dec.{eqb}
use borrow.Author.Tests.{lt-ltb, eq-eqb, ne_eqb}
use Rattle.field.specs.Map.{On, at}
use Rattle.field.specs.Workings.Sheet.{lit}
use Rattle.field.proofs.Workings.Marks.{marked_lit, unmarked_lit}
use Rattle.field.specs.Workings.Looking.{open_of, hop_to, east_west_of, north_south_of}
use Rattle.field.proofs.Workings.AxisLaws.{hop_below}
use Rattle.field.specs.declared.Place.{Place}
use Rattle.distances.specs.Promise.{AskedHome}
use Rattle.hops.specs.declared.Axis.{Axis}
use Rattle.hops.specs.declared.Axis.TheVariants.{Row, Column}
use Rattle.hops.specs.Leading.{along, Moved, passes, end}

-- On the map the test for an open crossing is that it has no mark.
pub open_unmarked : (s : List ℕ) (w h x y : ℕ) → On w h x y → open_of s w h x y ≡ eqb (at s w x y) 0
unfolding open_of
open_unmarked s w h x y o = rw (lt-ltb x w o.in_x, lt-ltb y h o.in_y) (go (dec_lt 0 (at s w x y)))
  where
    go : Dec (0 < at s w x y) → eqb (lit s w h x y) 0 ≡ eqb (at s w x y) 0
    go (yes l) =
        let e : lit s w h x y ≡ 1 = marked_lit s w h x y (record { on = o; mark = l }) in
        ne_eqb (lit s w h x y) 0 (omega arith) ∙ sym (ne_eqb (at s w x y) 0 (omega arith))
    go (no l) =
        let e : lit s w h x y ≡ 0 = unmarked_lit s w h x y (λ m. omega (arith, m.mark)) in
        eq-eqb (lit s w h x y) 0 (omega arith) ∙ sym (eq-eqb (at s w x y) 0 (omega arith))

module _ {w h hx hy x y : ℕ} (asked : AskedHome w h hx hy x y) where
  -- The hop from one place on the axis to the other leads there, under whatever names.
  pub moved_end : (t : Axis) (q : Place) {from to a : ℕ} → from ≡ along t x y → to ≡ along t hx hy → a ≡ hop_to from to
      → Moved t a x y q → Moved t (end t hx hy x y) x y q
  moved_end t q e f g m = let z = rw (e, f) at g in rw z at m

  -- It leads to a crossing of the map.
  pub end_on : (t : Axis) (q : Place) → Moved t (end t hx hy x y) x y q → On w h q.x q.y
  end_on Row q m = record { in_x = omega (arith, hop_below x hx w asked.on.in_x asked.home.in_x, m.0); in_y = omega (arith, asked.on.in_y, m.1) }
  end_on Column q m = record { in_x = omega (arith, asked.on.in_x, m.0); in_y = omega (arith, hop_below y hy h asked.on.in_y asked.home.in_y, m.1) }

  -- With home level on the axis the test fails, and else it tells whether the hop's end has a mark.
  pub passes_level : (t : Axis) (s : List ℕ) → along t x y ≡ along t hx hy → passes t s w h hx hy x y ≡ false
  unfolding east_west_of north_south_of
  passes_level Row s e = rw (eq-eqb x hx e)
  passes_level Column s e = rw (eq-eqb y hy e)

  pub passes_off : (t : Axis) (s : List ℕ) (q : Place) {v : ℕ} → along t x y ≢ along t hx hy → Moved t (end t hx hy x y) x y q
      → v ≡ at s w q.x q.y → passes t s w h hx hy x y ≡ eqb v 0
  unfolding east_west_of north_south_of
  passes_off Row s q n m e =
      let o = end_on Row q m in
      rw (ne_eqb x hx n, open_unmarked s w h (hop_to x hx) y (rw (m.0, m.1) at o), e, m.0, m.1)
  passes_off Column s q n m e =
      let o = end_on Column q m in
      rw (ne_eqb y hy n, open_unmarked s w h x (hop_to y hy) (rw (m.0, m.1) at o), e, m.0, m.1)
