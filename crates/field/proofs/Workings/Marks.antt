-- Laws of a sheet's marks: a mark as a number against the mark itself, and a crossing's marked
-- neighbours against their number.
use Rattle.std.specs.Prelude.{◌≡◌, refl, ◌&&◌, List, ◌↔◌}
use Rattle.std.proofs.Math.Path.{ap}
use Rattle.std.proofs.Math.Bool.{true}
use Prim.Native.Nat.{ℕ, zero, suc, ◌+◌, ◌<◌, ◌≤◌}
use native.Mathlib.Omega.{arith}
use Rattle.std.proofs.Math.Decide.{dec_lt, map_dec}
use Rattle.std.proofs.Math.Dec.{ltb}
use borrow.Author.Tests.{ltb-true, lt-ltb}
use Rattle.field.specs.Map.{On, OnMap, at, Near, east, west, north, south, Apart}
use Rattle.field.specs.Labels.{one}
use Rattle.field.specs.Workings.Sheet.{Marked, Draws, lit, west_of, south_of, around, sheet, sheet_at}
pub use Rattle.field.specs.Workings.Tests.{bit_le, bit_true, and_split, and_both, or_split, or_right}

module _ (s : List ℕ) (w h : ℕ) where
  pub lit_le : (x y : ℕ) → lit s w h x y ≤ 1
  unfolding lit
  lit_le x y = bit_le (ltb x w && (ltb y h && ltb 0 (at s w x y)))

  pub lit_marked : (x y : ℕ) → 0 < lit s w h x y → Marked s w h x y
  unfolding lit
  lit_marked x y l =
      let e : (ltb x w && (ltb y h && ltb 0 (at s w x y))) ≡ true = bit_true _ l in
      let f = and_split _ _ e in
      let g = and_split _ _ f.1 in
      record { on = record { in_x = ltb-true _ _ f.0; in_y = ltb-true _ _ g.0 }; mark = ltb-true _ _ g.1 }

  pub marked_lit : (x y : ℕ) → Marked s w h x y → lit s w h x y ≡ 1
  unfolding lit
  marked_lit x y m = simp (lt-ltb _ _ m.on.in_x, lt-ltb _ _ m.on.in_y, lt-ltb _ _ m.mark)

  pub unmarked_lit : (x y : ℕ) → ¬ Marked s w h x y → lit s w h x y ≡ 0
  unmarked_lit x y n = let k : ¬ (0 < lit s w h x y) = λ l. n (lit_marked x y l) in omega arith

  pub marked_dec : (x y : ℕ) → Dec (Marked s w h x y)
  marked_dec x y = map_dec (lit_marked x y) (λ m. omega (arith, marked_lit x y m)) (dec_lt 0 (lit s w h x y))

  pub west_le : (x y : ℕ) → west_of s w h x y ≤ 1
  unfolding west_of
  west_le zero y = omega arith
  west_le (suc x) y = lit_le x y

  pub south_le : (x y : ℕ) → south_of s w h x y ≤ 1
  unfolding south_of
  south_le x zero = omega arith
  south_le x (suc y) = lit_le x y

  pub west_at_lem : (x y a : ℕ) → a + 1 ≡ x → west_of s w h x y ≡ lit s w h a y
  unfolding west_of
  west_at_lem zero y a e = absurd (omega arith)
  west_at_lem (suc x) y a e = ap (λ (i : ℕ). lit s w h i y) (omega arith)

  pub south_at : (x y b : ℕ) → b + 1 ≡ y → south_of s w h x y ≡ lit s w h x b
  unfolding south_of
  south_at x zero b e = absurd (omega arith)
  south_at x (suc y) b e = ap (λ (i : ℕ). lit s w h x i) (omega arith)

  pub west_mark : (x y : ℕ) → 0 < west_of s w h x y → (a : ℕ) × (a + 1 ≡ x) × Marked s w h a y
  unfolding west_of
  west_mark zero y l = absurd (omega arith)
  west_mark (suc x) y l = (x, omega arith, lit_marked x y l)

  pub south_mark : (x y : ℕ) → 0 < south_of s w h x y → (b : ℕ) × (b + 1 ≡ y) × Marked s w h x b
  unfolding south_of
  south_mark x zero l = absurd (omega arith)
  south_mark x (suc y) l = (y, omega arith, lit_marked x y l)

  -- A marked neighbour, and two of them.
  pub record Beside (x y : ℕ) : Type 0 where
    pub a : ℕ
    pub b : ℕ
    pub near : Near x y a b
    pub mark : Marked s w h a b

  pub record Two (x y : ℕ) : Type 0 where
    pub first : Beside x y
    pub second : Beside x y
    pub two : Apart first.a first.b second.a second.b

  beside_east : (x y : ℕ) → 0 < lit s w h (x + 1) y → Beside x y
  beside_east x y p = record { a = x + 1; b = y; near = east refl refl; mark = lit_marked (x + 1) y p }

  beside_north : (x y : ℕ) → 0 < lit s w h x (y + 1) → Beside x y
  beside_north x y p = record { a = x; b = y + 1; near = north refl refl; mark = lit_marked x (y + 1) p }

  beside_west : (x y : ℕ) → 0 < west_of s w h x y → Beside x y
  beside_west x y p = let m = west_mark x y p in record { a = m.0; b = y; near = west m.1 refl; mark = m.2 }

  beside_south : (x y : ℕ) → 0 < south_of s w h x y → Beside x y
  beside_south x y p = let m = south_mark x y p in record { a = x; b = m.0; near = south refl m.1; mark = m.2 }

  -- One marked neighbour or more.
  pub around_one : (x y : ℕ) → 1 ≤ around s w h x y → Beside x y
  unfolding around
  around_one x y l = go (dec_lt 0 (lit s w h (x + 1) y)) (dec_lt 0 (west_of s w h x y)) (dec_lt 0 (lit s w h x (y + 1)))
    where
      go : Dec (0 < lit s w h (x + 1) y) → Dec (0 < west_of s w h x y) → Dec (0 < lit s w h x (y + 1)) → Beside x y
      go (yes e) u n = beside_east x y e
      go (no e) (yes u) n = beside_west x y u
      go (no e) (no u) (yes n) = beside_north x y n
      go (no e) (no u) (no n) = beside_south x y (omega arith)

  -- Two marked neighbours or more.
  pub around_two : (x y : ℕ) → 2 ≤ around s w h x y → Two x y
  unfolding around beside_east beside_west beside_north beside_south
  around_two x y l = go (dec_lt 0 (lit s w h (x + 1) y)) (dec_lt 0 (west_of s w h x y)) (dec_lt 0 (lit s w h x (y + 1))) (dec_lt 0 (south_of s w h x y))
    where
      go : Dec (0 < lit s w h (x + 1) y) → Dec (0 < west_of s w h x y) → Dec (0 < lit s w h x (y + 1)) → Dec (0 < south_of s w h x y) → Two x y
      go (yes e) (yes u) n o = record { first = beside_east x y e; second = beside_west x y u; two = omega (arith, (west_mark x y u).1) }
      go (yes e) (no u) (yes n) o = record { first = beside_east x y e; second = beside_north x y n; two = omega arith }
      go (yes e) (no u) (no n) (yes o) = record { first = beside_east x y e; second = beside_south x y o; two = omega arith }
      go (yes e) (no u) (no n) (no o) = absurd (omega (arith, lit_le (x + 1) y))
      go (no e) (yes u) (yes n) o = record { first = beside_west x y u; second = beside_north x y n; two = omega (arith, (west_mark x y u).1) }
      go (no e) (yes u) (no n) (yes o) = record { first = beside_west x y u; second = beside_south x y o; two = omega (arith, (west_mark x y u).1) }
      go (no e) (yes u) (no n) (no o) = absurd (omega (arith, west_le x y))
      go (no e) (no u) (yes n) (yes o) = record { first = beside_north x y n; second = beside_south x y o; two = omega (arith, (south_mark x y o).1) }
      go (no e) (no u) (yes n) (no o) = absurd (omega (arith, lit_le x (y + 1)))
      go (no e) (no u) (no n) o = absurd (omega (arith, south_le x y))

  -- A marked crossing counts, whatever its coordinates are called.
  lit_of : {x y a b : ℕ} → a ≡ x → b ≡ y → Marked s w h a b → 1 ≤ lit s w h x y
  lit_of {x} {y} {a} {b} p q m = omega (arith, marked_lit a b m, ap (λ (i : ℕ). lit s w h i b) p, ap (λ (j : ℕ). lit s w h x j) q)

  west_of_lem : {x y a b : ℕ} → a + 1 ≡ x → b ≡ y → Marked s w h a b → 1 ≤ west_of s w h x y
  west_of_lem {x} {y} {a} {b} p q m = omega (arith, west_at_lem x y a p, lit_of refl q m)

  south_of_lem : {x y a b : ℕ} → a ≡ x → b + 1 ≡ y → Marked s w h a b → 1 ≤ south_of s w h x y
  south_of_lem {x} {y} {a} {b} p q m = omega (arith, south_at x y b q, lit_of p refl m)

  pub one_around : (x y a b : ℕ) → Near x y a b → Marked s w h a b → 1 ≤ around s w h x y
  unfolding around
  one_around x y a b (east p q) m = omega (arith, lit_of p q m)
  one_around x y a b (west p q) m = omega (arith, west_of_lem p q m)
  one_around x y a b (north p q) m = omega (arith, lit_of p q m)
  one_around x y a b (south p q) m = omega (arith, south_of_lem p q m)

  pub two_around : (x y a b c d : ℕ) → Near x y a b → Near x y c d → Apart a b c d → Marked s w h a b → Marked s w h c d → 2 ≤ around s w h x y
  unfolding around
  two_around x y a b c d (east p q) (east p' q') t m n = absurd (t (omega arith))
  two_around x y a b c d (east p q) (west p' q') t m n = omega (arith, lit_of p q m, west_of_lem p' q' n)
  two_around x y a b c d (east p q) (north p' q') t m n = omega (arith, lit_of p q m, lit_of p' q' n)
  two_around x y a b c d (east p q) (south p' q') t m n = omega (arith, lit_of p q m, south_of_lem p' q' n)
  two_around x y a b c d (west p q) (east p' q') t m n = omega (arith, west_of_lem p q m, lit_of p' q' n)
  two_around x y a b c d (west p q) (west p' q') t m n = absurd (t (omega arith))
  two_around x y a b c d (west p q) (north p' q') t m n = omega (arith, west_of_lem p q m, lit_of p' q' n)
  two_around x y a b c d (west p q) (south p' q') t m n = omega (arith, west_of_lem p q m, south_of_lem p' q' n)
  two_around x y a b c d (north p q) (east p' q') t m n = omega (arith, lit_of p q m, lit_of p' q' n)
  two_around x y a b c d (north p q) (west p' q') t m n = omega (arith, lit_of p q m, west_of_lem p' q' n)
  two_around x y a b c d (north p q) (north p' q') t m n = absurd (t (omega arith))
  two_around x y a b c d (north p q) (south p' q') t m n = omega (arith, lit_of p q m, south_of_lem p' q' n)
  two_around x y a b c d (south p q) (east p' q') t m n = omega (arith, south_of_lem p q m, lit_of p' q' n)
  two_around x y a b c d (south p q) (west p' q') t m n = omega (arith, south_of_lem p q m, west_of_lem p' q' n)
  two_around x y a b c d (south p q) (north p' q') t m n = omega (arith, south_of_lem p q m, lit_of p' q' n)
  two_around x y a b c d (south p q) (south p' q') t m n = absurd (t (omega arith))

-- What a sheet draws is decided by its marks.
module _ (w h : ℕ) (C : ℕ → ℕ → Type 0) (s : List ℕ) (D : Draws w h C s) where
  pub drawn_dec : (x y : ℕ) → Dec (C x y)
  drawn_dec x y = map_dec (D.sound x y) (D.complete x y) (marked_dec s w h x y)

  pub drawn_lit : (x y : ℕ) → C x y → lit s w h x y ≡ 1
  drawn_lit x y c = marked_lit s w h x y (D.complete x y c)

  pub lit_drawn : (x y : ℕ) → 0 < lit s w h x y → C x y
  lit_drawn x y l = D.sound x y (lit_marked s w h x y l)

  pub undrawn_lit : (x y : ℕ) → ¬ C x y → lit s w h x y ≡ 0
  undrawn_lit x y n = unmarked_lit s w h x y (λ m. n (D.sound x y m))

  -- A mark is a test for it.
  pub drawn_looks : (x y : ℕ) → (C x y ↔ ltb 0 (lit s w h x y) ≡ true)
  drawn_looks x y = (λ c. lt-ltb 0 (lit s w h x y) (omega (arith, drawn_lit x y c)), λ e. lit_drawn x y (ltb-true _ _ e))

-- A sheet made by a test draws the crossings that pass it.
pub sheet_draws : (w h : ℕ) (P : ℕ → ℕ → Type 0) (f : ℕ → ℕ → ℕ) → ((x y : ℕ) → On w h x y → 0 < f x y → P x y)
    → ((x y : ℕ) → P x y → On w h x y × (0 < f x y)) → Draws w h P (sheet w h f)
sheet_draws w h P f g k =
    record {
      sound = λ x y m. g x y m.on (omega (arith, m.mark, sheet_at w h f x y m.on));
      complete = λ x y p. let o = k x y p in record { on = o.0; mark = omega (arith, o.1, sheet_at w h f x y o.0) };
    }

-- A set on the map that can be told has a sheet: 1 on its crossings, and 0 elsewhere.
abbrev pub decided : (w h : ℕ) {C : ℕ → ℕ → Type 0} → ((x y : ℕ) → Dec (C x y)) → List ℕ
decided w h d = sheet w h (λ x y. one (d x y))

pub decided_draws : (w h : ℕ) (C : ℕ → ℕ → Type 0) → OnMap w h C → (d : (x y : ℕ) → Dec (C x y)) → Draws w h C (decided w h d)
decided_draws w h C on d =
    sheet_draws w h C (λ x y. one (d x y)) (λ x y i b. (told (d x y)).0 b) (λ x y c. (on x y c, (told (d x y)).1 c))
  where
    told : {P : Type 0} (k : Dec P) → (0 < one k → P) × (P → 0 < one k)
    told (yes c) = ((λ b. c), λ b. omega arith)
    told (no f) = ((λ b. absurd (omega arith)), λ c. absurd (f c))
