-- What the count over the map means. The pass from the depot's corner to the opposite one tells of
-- every crossing whether it has a shortest drive to the depot; the depot's distances tell, axis by
-- axis, for which open crossings it is assured.
use mathlib.Core.Path.{◌≡◌, refl}
use mathlib.Core.Bool.{true, ◌&&◌}
use mathlib.Core.List.{List}
use mathlib.Core.Logic.{◌↔◌}
use Prim.Native.Nat.{ℕ, ◌-◌, ◌<◌, ◌≤◌}
use native.Mathlib.Omega.{arith}
use native.Mathlib.Decide.{ℕ_discrete}
use lib.Dec.{ltb, eqb}
use lib.ListN.{get_or}
use borrow.Author.Tests.{ltb-true, lt-ltb, eqb-true, eq-eqb}
use Rattle.field.specs.declared.Depot.{Depot}
use Rattle.field.specs.declared.Depot.TheVariants.{SouthWest, SouthEast, NorthWest, NorthEast}
use Rattle.field.specs.declared.Placing.{Placing}
use Rattle.field.specs.Map.{Sides, On, at, gap}
use Rattle.field.specs.Labels.{Open}
use Rattle.field.specs.Distances.{Distances, Assured}
use Rattle.field.specs.Drives.{HasDrive, InOut, is_in, is_out}
use Rattle.field.specs.Depots.{depot_x, depot_y, Sizes, depot_open}
use Rattle.field.specs.Workings.Tests.{and_split, and_both}
use Rattle.field.specs.Workings.Sheet.{Marked, marked_draws}
use Rattle.field.specs.Workings.Looking.{axis_of}
use Rattle.field.proofs.Workings.Placing.{total_sizes}
use Rattle.distances.specs.Assuring.{unmarked_open, row_looks, column_looks}
use Rattle.regions.specs.Passes.{OnWay, Spanned}
use Rattle.regions.specs.Reaching.{Reached}
use Rattle.placing.specs.Promise.{Places}
use Rattle.placing.specs.Counting.{adds_at, row_at, count_of}

-- From a corner to the opposite one the way along an axis is the whole axis, upwards or downwards.
between : {a b p : ℕ} → a ≤ p → p ≤ b → OnWay a b p × OnWay b a p
unfolding gap
between l m = (record { direct = omega arith }, record { direct = omega arith })

way_up : {x w : ℕ} → x < w → OnWay 0 (w - 1 - 0) x
way_up {x} {w} l = (between {a = 0} {b = w - 1 - 0} {p = x} (omega arith) (omega arith)).0

way_down : {x w : ℕ} → x < w → OnWay (w - 1) (w - 1 - (w - 1)) x
way_down {x} {w} l = (between {a = w - 1 - (w - 1)} {b = w - 1} {p = x} (omega arith) (omega arith)).1

pub corner_spans : (depot : Depot) {w h x y : ℕ} → On w h x y → Spanned (depot_x depot w) (depot_y depot h) (w - 1 - depot_x depot w) (h - 1 - depot_y depot h) x y
corner_spans SouthWest o = record { across = way_up o.in_x; along = way_up o.in_y }
corner_spans SouthEast o = record { across = way_down o.in_x; along = way_up o.in_y }
corner_spans NorthWest o = record { across = way_up o.in_x; along = way_down o.in_y }
corner_spans NorthEast o = record { across = way_down o.in_x; along = way_down o.in_y }

corner_on : (depot : Depot) {w h : ℕ} → Sides w h → On w h (depot_x depot w) (depot_y depot h)
corner_on SouthWest s = record { in_x = omega (arith, s.some_w); in_y = omega (arith, s.some_h) }
corner_on SouthEast s = record { in_x = omega (arith, s.some_w); in_y = omega (arith, s.some_h) }
corner_on NorthWest s = record { in_x = omega (arith, s.some_w); in_y = omega (arith, s.some_h) }
corner_on NorthEast s = record { in_x = omega (arith, s.some_w); in_y = omega (arith, s.some_h) }

-- What the three tests at a crossing tell.
module _ (w h : ℕ) (s : List ℕ) where
  open-tells : (x y : ℕ) → On w h x y → (Open w h (Marked s w h) x y ↔ eqb (at s w x y) 0 ≡ true)
  open-tells x y o = (λ p. eq-eqb (at s w x y) 0 (unmarked p (ℕ_discrete (at s w x y) 0)), λ e. unmarked_open refl o (eqb-true _ _ e))
    where
      unmarked : Open w h (Marked s w h) x y → Dec (at s w x y ≡ 0) → at s w x y ≡ 0
      unmarked p (yes e) = e
      unmarked p (no n) = absurd (p.free (record { on = o; mark = omega arith }))

  module _ (dx dy : ℕ) {four : List ℕ} (home : Open w h (Marked s w h) dx dy) (d : Distances (Marked s w h) dx dy four) where
    assured_tells : (x y : ℕ) → Open w h (Marked s w h) x y
        → (Assured w h (Marked s w h) dx dy x y ↔ (axis_of (get_or four 3 0) (get_or four 1 0) dy y && axis_of (get_or four 0 0) (get_or four 2 0) dx x) ≡ true)
    assured_tells x y o = (
      λ a. and_both _ _ ((column_looks d y).0 a.north_south) ((row_looks d x).0 a.east_west),
      λ e.
          let f = and_split _ _ e in
          record { home = home; place = o; east_west = (row_looks d x).1 f.1; north_south = (column_looks d y).1 f.0 },
    )

    module _ (g : List ℕ) (reached : (x y : ℕ) → On w h x y → InOut (HasDrive w h (Marked s w h) x y dx dy) (at g w x y)) where
      drive_tells : (x y : ℕ) → Open w h (Marked s w h) x y → (HasDrive w h (Marked s w h) x y dx dy ↔ ltb 0 (at g w x y) ≡ true)
      drive_tells x y o = go (reached x y o.on)
        where
          go : InOut (HasDrive w h (Marked s w h) x y dx dy) (at g w x y) → (HasDrive w h (Marked s w h) x y dx dy ↔ ltb 0 (at g w x y) ≡ true)
          go (is_in e v) = (λ k. lt-ltb 0 (at g w x y) (omega arith), λ k. v)
          go (is_out e n) = (λ k. absurd (n k), λ k. absurd (omega (arith, ltb-true 0 (at g w x y) k)))

      -- The count has the sizes of the four sets.
      pub count_sizes : Sizes w h (Marked s w h) dx dy (count_of s g w four dx dy h)
      unfolding adds_at row_at
      count_sizes = total_sizes w h (Marked s w h) s (marked_draws w h s) dx dy _ _ _ open-tells assured_tells drive_tells

-- The depot is at (dx, dy), and v stands there on the sheet of the closed crossings.
module _ (depot : Depot) {w h dx dy : ℕ} (sides : Sides w h) (ex : dx ≡ depot_x depot w) (ey : dy ≡ depot_y depot h) where
  pub depot_on : On w h dx dy
  depot_on = rw (ex, ey) (corner_on depot sides)

  module _ (s : List ℕ) {v : ℕ} (e : v ≡ at s w dx dy) where
    pub places_all : {g g' four : List ℕ} {p : Placing} → v ≡ 0 → Reached w h s dx dy (w - 1 - dx) (h - 1 - dy) g g' → Distances (Marked s w h) dx dy four
        → p ≡ count_of s g' w four dx dy h → Places w h s depot g g' p
    places_all {g' = g'} z r d c =
        let home = unmarked_open e depot_on z in
        record {
          placed = rw (← ex, ← ey, c) (depot_open home (count_sizes w h s dx dy home d g' (λ x y o. r.reached x y o (spans o))));
          kept = r.size;
        }
      where
        spans : {x y : ℕ} → On w h x y → Spanned dx dy (w - 1 - dx) (h - 1 - dy) x y
        spans o = rw (ex, ey) (corner_spans depot o)
