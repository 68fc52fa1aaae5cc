-- Each group has one crossing of lowest number, and no two: the southwest corner of its rectangle.
-- So the groups are counted by the closed crossings with neither a closed west nor a closed south
-- neighbour.
use Rattle.std.specs.Prelude.{◌≡◌, refl, ◌↔◌, ℕ, zero, suc, ◌+◌, ◌-◌, ◌<◌, ◌≤◌}
use Rattle.std.proofs.Common.{subst, arith, mul-le-mul_right}
use Rattle.std.proofs.Math.Logic.Dec
use Rattle.std.proofs.Math.Decide.{dec_le, map_dec}
use Rattle.field.specs.Map.{OnMap, west, south, number}
use Rattle.field.specs.Labels.{Stable, count, Count}
use Rattle.field.specs.Groups.{Linked, here, step, Lowest, Groups}
use Rattle.field.proofs.Workings.GridLaws
use Rattle.field.proofs.Workings.GridLaws.{number_north}
use Rattle.field.proofs.Workings.Counting.{Same, count_moved}
use Rattle.field.specs.Geometry.Shapes.{Within, Rectangle, Corner}
use Rattle.field.proofs.Geometry.Links.{linked_to, linked_from, linked_sym}
use Rattle.field.proofs.Geometry.Rectangles.{span_row, span_column, group_rectangle}

-- Two crossings of the map have two numbers, however high it is.
pub number_one : (w x y a b : ℕ) → x < w → a < w → number w x y ≡ number w a b → (x ≡ a) × (y ≡ b)
number_one w x y a b l m =
    GridLaws.number_one {h = suc (y + b)} (record { in_x = m; in_y = omega arith }) (record { in_x = l; in_y = omega arith })

module _ (w h : ℕ) (C : ℕ → ℕ → Type 0) (on : OnMap w h C) (st : Stable w h C) where
  -- A crossing has the lowest number of its group exactly if it is a corner: the group's row and
  -- column through it are closed as far as the group reaches, so that nothing of it lies further
  -- west or further south.
  pub lowest_is_corner : (x y : ℕ) → Lowest w C x y → Corner C x y
  lowest_is_corner x y t =
      record {
        closed = t.closed;
        no_west = λ a e c. omega (arith, t.lowest a y (step (here refl refl t.closed) (west e refl) c));
        no_south =
            λ b e c.
            omega
            (arith, t.lowest x b (step (here refl refl t.closed) (south refl e) c), number_north w x b x y (on x b c).in_x (omega arith));
      }

  pub corner_is_lowest : (x y : ℕ) → Corner C x y → Lowest w C x y
  corner_is_lowest x y t = record { closed = t.closed; lowest = low }
    where
      low : (a b : ℕ) → Linked C x y a b → number w x y ≤ number w a b
      low a b l = go (dec_le x a) (dec_le y b)
        where
          go : Dec (x ≤ a) → Dec (y ≤ b) → number w x y ≤ number w a b
          go (no n) d = absurd (t.no_west (x - 1) (omega arith) (span_row w h C on st l (x - 1) (omega arith)))
          go (yes p) (no n) = absurd (t.no_south (y - 1) (omega arith) (span_column w h C on st l (y - 1) (omega arith)))
          go (yes p) (yes q) = omega (arith, mul-le-mul_right {m = y} {n = b} w q)

  pub lowest_corner : (x y : ℕ) → Lowest w C x y ↔ Corner C x y
  lowest_corner x y = (lowest_is_corner x y, corner_is_lowest x y)

  -- No two crossings of a group have its lowest number.
  pub lowest_one : (x y a b : ℕ) → Linked C x y a b → Lowest w C x y → Lowest w C a b → (x ≡ a) × (y ≡ b)
  lowest_one x y a b l p q =
      number_one w x y a b (on x y p.closed).in_x (on a b q.closed).in_x
      (omega (arith, p.lowest a b l, q.lowest x y (linked_sym l)))

-- Whether the next place downwards on a line is in P can be told.
below_dec : (P : ℕ → Type 0) → ((k : ℕ) → Dec (P k)) → (x : ℕ) → Dec ((a : ℕ) → a + 1 ≡ x → ¬ P a)
below_dec P dec zero = yes (λ a e. absurd (omega arith))
below_dec P dec (suc x) = go (dec x)
  where
    go : Dec (P x) → Dec ((a : ℕ) → a + 1 ≡ suc x → ¬ P a)
    go (yes p) = no (λ f. f x (omega arith) p)
    go (no n) = yes (λ a e p. n (subst P (omega arith) p))

pub corner_dec : (C : ℕ → ℕ → Type 0) → ((x y : ℕ) → Dec (C x y)) → (x y : ℕ) → Dec (Corner C x y)
corner_dec C dec x y =
    map_dec (λ t. record { closed = t.0; no_west = t.1.0; no_south = t.1.1 }) (λ t. (t.closed, (t.no_west, t.no_south)))
    (Dec.and (dec x y) (Dec.and (below_dec (λ a. C a y) (λ a. dec a y) x) (below_dec (C x) (dec x) y)))

within_dec : (x₀ x₁ y₀ y₁ a b : ℕ) → Dec (Within x₀ x₁ y₀ y₁ a b)
within_dec x₀ x₁ y₀ y₁ a b =
    map_dec (λ t. record { from_west = t.0.0; to_east = t.0.1; from_south = t.1.0; to_north = t.1.1 })
    (λ t. ((t.from_west, t.to_east), (t.from_south, t.to_north)))
    (Dec.and (Dec.and (dec_le x₀ a) (dec_le a x₁)) (Dec.and (dec_le y₀ b) (dec_le b y₁)))

module _ (w h : ℕ) (C : ℕ → ℕ → Type 0) (on : OnMap w h C) (st : Stable w h C) (dec : (x y : ℕ) → Dec (C x y)) where
  -- Whether two crossings are in one group can be told from the rectangle.
  pub linked_dec : (x y a b : ℕ) → Dec (Linked C x y a b)
  linked_dec x y a b = go (dec x y)
    where
      go : Dec (C x y) → Dec (Linked C x y a b)
      go (yes c) =
          let r : Rectangle C x y = group_rectangle w h C on st dec x y c in
          map_dec (r.exactly a b).1 (r.exactly a b).0 (within_dec r.x₀ r.x₁ r.y₀ r.y₁ a b)
      go (no n) = no (λ l. n (linked_from l))

  pub lowest_dec : (x y : ℕ) → Dec (Lowest w C x y)
  lowest_dec x y = map_dec (corner_is_lowest w h C on st x y) (lowest_is_corner w h C on st x y) (corner_dec C dec x y)

  -- Each group has a crossing of lowest number: the southwest corner of its rectangle.
  pub lowest_some : (x y : ℕ) → C x y → (a : ℕ) × (b : ℕ) × Linked C x y a b × Lowest w C a b
  lowest_some x y c = of (group_rectangle w h C on st dec x y c)
    where
      of : Rectangle C x y → (a : ℕ) × (b : ℕ) × Linked C x y a b × Lowest w C a b
      of r = (r.x₀, r.y₀, l, corner_is_lowest w h C on st r.x₀ r.y₀ corner)
        where
          l : Linked C x y r.x₀ r.y₀
          l = (r.exactly r.x₀ r.y₀).1 (record { from_west = omega arith; to_east = r.wide; from_south = omega arith; to_north = r.high })

          corner : Corner C r.x₀ r.y₀
          corner =
              record {
                closed = linked_to l;
                no_west = λ a e k. omega (arith, ((r.exactly a r.y₀).0 (step l (west e refl) k)).from_west);
                no_south = λ b e k. omega (arith, ((r.exactly r.x₀ b).0 (step l (south refl e) k)).from_south);
              }

  -- The number of groups is the number of corners.
  pub groups_corners : (n : ℕ) → Groups w h C n ↔ Count w h (Corner C) n
  groups_corners n = (count_moved same_set (corner_dec C dec), count_moved same_back lowest_dec)
    where
      same_set : Same w h (Lowest w C) (Corner C)
      same_set x y o = lowest_corner w h C on st x y

      same_back : Same w h (Corner C) (Lowest w C)
      same_back x y o = (corner_is_lowest w h C on st x y, lowest_is_corner w h C on st x y)

  pub groups_some : (n : ℕ) × Groups w h C n
  groups_some = (count w h (Lowest w C) lowest_dec, (lowest_dec, refl))
