-- Working: the corners of groups, read off a sheet of the closed crossings, and with them the
-- number of groups and a group's rectangle.
use Rattle.std.specs.Prelude.{◌≡◌, Bool, ◌&&◌, List, ◌↔◌, ℕ, zero, suc, ◌+◌, ◌-◌, ◌<◌, ◌≤◌, leb, eqb}
use Rattle.std.proofs.Common.{subst, arith}
use Rattle.std.proofs.Math.Bool.{true}
use Rattle.std.proofs.Math.Decide.{dec_lt}
use Rattle.std.proofs.Math.Dec.{ltb}
use borrow.Author.Tests.{ltb-true, leb-true, eqb-true, lt-ltb}
use Rattle.field.specs.Map.{OnMap}
use Rattle.field.specs.Labels.{Stable}
use Rattle.field.specs.Groups.{Linked, Groups}
use Rattle.field.specs.Geometry.Shapes.{Within, Corner}
use Rattle.field.proofs.Geometry.Lines.{Run}
use Rattle.field.proofs.Geometry.Rectangles.{runs_rectangle}
use Rattle.field.proofs.Geometry.Groups.{corner_dec, groups_corners}
use Rattle.field.specs.Workings.Tests.{bit, and_split}
use Rattle.field.specs.Workings.Sheet.{Draws, lit, west_of, south_of}
use Rattle.field.proofs.Workings.Marks.{lit_le, west_at_lem, south_at, west_mark, south_mark, drawn_dec, drawn_lit, lit_drawn, drawn_looks}
use Rattle.field.proofs.Workings.Counting.{tally, count_tests}

-- Marked, with neither a marked west nor a marked south neighbour.
unfoldable pub corner_of : List ℕ → ℕ → ℕ → ℕ → ℕ → Bool
corner_of s w h x y = ltb (west_of s w h x y + south_of s w h x y) (lit s w h x y)

-- The number of groups.
unfoldable pub groups_of : List ℕ → ℕ → ℕ → ℕ
groups_of s w h = tally w h (λ x y. bit (corner_of s w h x y))

-- f holds of 0, 1, .., n - 1.
unfoldable pub every : ℕ → (ℕ → Bool) → Bool
every zero f = true
every (suc n) f = f n && every n f

pub every_one : (n : ℕ) (f : ℕ → Bool) → every n f ≡ true → (k : ℕ) → k < n → f k ≡ true
unfolding every
every_one zero f e k l = absurd (omega arith)
every_one (suc n) f e k l = let both = and_split _ _ e in go (dec_lt k n) both.0 (every_one n f both.1 k)
  where
    go : Dec (k < n) → f n ≡ true → (k < n → f k ≡ true) → f k ≡ true
    go (yes m) p g = g m
    go (no m) p g = let q : n ≡ k = omega arith in subst (λ (i : ℕ). f i ≡ true) q p

-- The same of a test on two numbers.
pub every_two : (n m : ℕ) (f : ℕ → ℕ → Bool) → every n (λ y. every m (f y)) ≡ true → (x y : ℕ) → x < m → y < n → f y x ≡ true
every_two n m f e x y p q = every_one m (f y) (every_one n (λ y. every m (f y)) e y q) x p

-- Where f tells P and holds from low to high, and P ends there on both sides, low to high is the
-- run of P about low.
every_run : (P : ℕ → Type 0) (f : ℕ → Bool) → ((u : ℕ) → f u ≡ true → P u) → (low high : ℕ) → low ≤ high
    → every (suc (high - low)) (λ k. f (low + k)) ≡ true → ((u : ℕ) → u + 1 ≡ low → ¬ P u) → ¬ P (high + 1) → Run P low
every_run P f t low high l e below above =
    record { low = low; high = high; from_low = omega arith; to_high = l; all = all; ends_low = below; ends_high = above }
  where
    all : (u : ℕ) → low ≤ u → u ≤ high → P u
    all u p q =
        let i : low + (u - low) ≡ u = omega arith in
        subst P i (t (low + (u - low)) (every_one _ (λ k. f (low + k)) e (u - low) (omega arith)))

-- The group of (x₀, y₀) is x₀ to x₁ by y₀ to y₁: its first row and column are marked, and nothing
-- beside their ends.
unfoldable pub rectangle_of : List ℕ → ℕ → ℕ → ℕ → ℕ → ℕ → ℕ → Bool
rectangle_of s w h x₀ x₁ y₀ y₁ =
    (leb x₀ x₁ && leb y₀ y₁)
    && ((every (suc (x₁ - x₀)) (λ k. ltb 0 (lit s w h (x₀ + k) y₀)) && every (suc (y₁ - y₀)) (λ k. ltb 0 (lit s w h x₀ (y₀ + k))))
    && (eqb (west_of s w h x₀ y₀ + south_of s w h x₀ y₀) 0 && eqb (lit s w h (x₁ + 1) y₀ + lit s w h x₀ (y₁ + 1)) 0))

module _ (w h : ℕ) (C : ℕ → ℕ → Type 0) (s : List ℕ) (D : Draws w h C s) where
  no_west_mark : (x y : ℕ) → ((a : ℕ) → a + 1 ≡ x → ¬ C a y) → west_of s w h x y ≡ 0
  no_west_mark x y f =
      let n : ¬ (0 < west_of s w h x y) = λ l. let m = west_mark s w h x y l in f m.0 m.1 (D.sound m.0 y m.2) in
      omega arith

  no_south_mark : (x y : ℕ) → ((b : ℕ) → b + 1 ≡ y → ¬ C x b) → south_of s w h x y ≡ 0
  no_south_mark x y f =
      let n : ¬ (0 < south_of s w h x y) = λ l. let m = south_mark s w h x y l in f m.0 m.1 (D.sound x m.0 m.2) in
      omega arith

  no_west : (x y : ℕ) → west_of s w h x y ≡ 0 → (a : ℕ) → a + 1 ≡ x → ¬ C a y
  no_west x y e a q c = omega (arith, west_at_lem s w h x y a q, drawn_lit w h C s D a y c)

  no_south : (x y : ℕ) → south_of s w h x y ≡ 0 → (b : ℕ) → b + 1 ≡ y → ¬ C x b
  no_south x y e b q c = omega (arith, south_at s w h x y b q, drawn_lit w h C s D x b c)

  pub corner_looks : (x y : ℕ) → (Corner C x y ↔ corner_of s w h x y ≡ true)
  unfolding corner_of
  corner_looks x y = (sound, complete)
    where
      sound : Corner C x y → ltb (west_of s w h x y + south_of s w h x y) (lit s w h x y) ≡ true
      sound k =
          lt-ltb (west_of s w h x y + south_of s w h x y) (lit s w h x y)
          (omega (arith, drawn_lit w h C s D x y k.closed, no_west_mark x y k.no_west, no_south_mark x y k.no_south))

      complete : ltb (west_of s w h x y + south_of s w h x y) (lit s w h x y) ≡ true → Corner C x y
      complete e =
          let l : west_of s w h x y + south_of s w h x y < lit s w h x y = ltb-true _ _ e in
          record {
            closed = lit_drawn w h C s D x y (omega arith);
            no_west = no_west x y (omega (arith, lit_le s w h x y));
            no_south = no_south x y (omega (arith, lit_le s w h x y));
          }

  module _ (on : OnMap w h C) (st : Stable w h C) where
    dec : (x y : ℕ) → Dec (C x y)
    dec = drawn_dec w h C s D

    -- The number of groups is what the corners on the sheet come to.
    pub groups_look : Groups w h C (groups_of s w h)
    unfolding groups_of
    groups_look =
        (groups_corners w h C on st dec (tally w h (λ x y. bit (corner_of s w h x y)))).1
        (count_tests w h (Corner C) (corner_of s w h) (λ x y o. corner_looks x y) (corner_dec C dec))

    -- A group whose first row and column are marked, and nothing beside their ends, is that
    -- rectangle: the product of two runs.
    pub rectangle_looks : (x₀ x₁ y₀ y₁ : ℕ) → rectangle_of s w h x₀ x₁ y₀ y₁ ≡ true → (a b : ℕ) → Linked C x₀ y₀ a b ↔ Within x₀ x₁ y₀ y₁ a b
    unfolding rectangle_of every_run
    rectangle_looks x₀ x₁ y₀ y₁ e =
        let f = and_split _ _ e in
        let g = and_split _ _ f.0 in
        let k = and_split _ _ f.1 in
        let r = and_split _ _ k.0 in
        let t = and_split _ _ k.1 in
        let low : west_of s w h x₀ y₀ + south_of s w h x₀ y₀ ≡ 0 = eqb-true _ _ t.0 in
        let high : lit s w h (x₁ + 1) y₀ + lit s w h x₀ (y₁ + 1) ≡ 0 = eqb-true _ _ t.1 in
        let row =
        every_run (λ x. C x y₀) (λ x. ltb 0 (lit s w h x y₀)) (λ x. (drawn_looks w h C s D x y₀).1) x₀ x₁ (leb-true _ _ g.0) r.0
        (no_west x₀ y₀ (omega arith)) (λ c. omega (arith, drawn_lit w h C s D (x₁ + 1) y₀ c)) in
        let column =
        every_run (C x₀) (λ y. ltb 0 (lit s w h x₀ y)) (λ y. (drawn_looks w h C s D x₀ y).1) y₀ y₁ (leb-true _ _ g.1) r.1
        (no_south x₀ y₀ (omega arith)) (λ c. omega (arith, drawn_lit w h C s D x₀ (y₁ + 1) c)) in
        runs_rectangle w h C on st x₀ y₀ (row.all x₀ row.from_low row.to_high) row column
