-- What the chooser's tests come to: whether the choice is along the row, and what it then is.
use Rattle.std.proofs.Common.{◌≡◌, ℕ, ◌<◌, Bool, true, false, ◌⊎◌, inl, inr, List, refl, ◌∙◌, sym, arith, eq-eqb, ne_eqb, eqb, ltb, lt-ltb, le-ltb}
use Rattle.std.proofs.Math.Decide.{dec_lt}
use Rattle.field.specs.Chooser.{drawn, top}
use Rattle.field.specs.Workings.Looking.{hop_to}
use Rattle.field.specs.Workings.Reaching.{Choice, east_west_in, north_south_in, choice_of, chosen_of}
use Rattle.drives.specs.declared.chooser.Choice as drives
use Rattle.drives.specs.Hops.{row_taken, Chose}

-- The top bit of a state is 0 exactly if the state is below half the range.
top_zero : (t : ℕ) → ltb t 2147483648 ≡ eqb (top t) 0
unfolding top
top_zero t = go (dec_lt t 2147483648)
  where
    go : Dec (t < 2147483648) → ltb t 2147483648 ≡ eqb (top t) 0
    go (yes l) = lt-ltb t 2147483648 l ∙ sym (eq-eqb (top t) 0 (omega arith))
    go (no l) = le-ltb t 2147483648 (omega arith) ∙ sym (ne_eqb (top t) 0 (λ e. omega arith))

pub taken_two : {e n : Bool} (t : ℕ) → e ≡ true → n ≡ true → ltb t 2147483648 ≡ row_taken e n t
taken_two t p q = rw (p, q) (top_zero t)

-- A choice along the row takes a candidate there, and another choice one along the column.
pub taken_row : (e n : Bool) (t : ℕ) → row_taken e n t ≡ true → e ≡ true
taken_row true n t h = refl
taken_row false n t h = h

pub taken_column : (e n : Bool) (t : ℕ) → row_taken e n t ≡ false → (e ≡ true) ⊎ (n ≡ true) → n ≡ true
taken_column true true t h o = refl
taken_column true false t h o = sym h
taken_column false n t h (inl e) = cc
taken_column false n t h (inr e) = e

row_choice : (a b : Bool) (x y hx hy z : ℕ) → row_taken a b (drawn z) ≡ true → choice_of a b x y hx hy z ≡ record { x = hx; y = y; state = drawn z }
row_choice true true x y hx hy z k = simp k
row_choice true false x y hx hy z k = refl
row_choice false b x y hx hy z k = cc

column_choice : (a b : Bool) (x y hx hy z : ℕ) → row_taken a b (drawn z) ≡ false → choice_of a b x y hx hy z ≡ record { x = x; y = hy; state = drawn z }
column_choice true true x y hx hy z k = simp k
column_choice true false x y hx hy z k = cc
column_choice false b x y hx hy z k = refl

-- The choice, by what the looks and the draw answer: e and n tell which candidates there are, u is
-- the state drawn.
module _ (g : List ℕ) (w h dx dy x y z : ℕ) where
  chose : {c : drives.Choice} {k : Choice} → chosen_of g w h dx dy x y z ≡ k → c.at.x ≡ k.x → c.at.y ≡ k.y → c.state ≡ k.state → Chose w h g dx dy x y z c
  chose e p q r = record { x_is = rw e p; y_is = rw e q; state_is = rw e r }

  -- The choice, case by case: by the draw, with one candidate along the row, and with none there.
  pub chosen_low : east_west_in g w h dx x y ≡ true → north_south_in g w h dy x y ≡ true → top (drawn z) ≡ 0
      → chosen_of g w h dx dy x y z ≡ record { x = hop_to x dx; y = y; state = drawn z }
  unfolding chosen_of
  chosen_low e n t = simp (e, n, eq-eqb (top (drawn z)) 0 t)

  pub chosen_high : east_west_in g w h dx x y ≡ true → north_south_in g w h dy x y ≡ true → ¬ (top (drawn z) ≡ 0)
      → chosen_of g w h dx dy x y z ≡ record { x = x; y = hop_to y dy; state = drawn z }
  unfolding chosen_of
  chosen_high e n t = simp (e, n, ne_eqb (top (drawn z)) 0 t)

  pub chosen_row : east_west_in g w h dx x y ≡ true → north_south_in g w h dy x y ≡ false
      → chosen_of g w h dx dy x y z ≡ record { x = hop_to x dx; y = y; state = drawn z }
  unfolding chosen_of
  chosen_row e n = simp (e, n)

  pub chosen_column : east_west_in g w h dx x y ≡ false → chosen_of g w h dx dy x y z ≡ record { x = x; y = hop_to y dy; state = drawn z }
  unfolding chosen_of
  chosen_column e = simp e

  module _ {e n : Bool} {u : ℕ} (p : e ≡ east_west_in g w h dx x y) (q : n ≡ north_south_in g w h dy x y) (d : u ≡ drawn z) where
    pub chose_row : row_taken e n u ≡ true → {a : ℕ} → a ≡ hop_to x dx → Chose w h g dx dy x y z (record { at = record { x = a; y = y }; state = u })
    unfolding chosen_of
    chose_row k i = chose (row_choice _ _ x y (hop_to x dx) (hop_to y dy) z (rw (p, q, d) at k)) i refl d

    pub chose_column : row_taken e n u ≡ false → {b : ℕ} → b ≡ hop_to y dy → Chose w h g dx dy x y z (record { at = record { x = x; y = b }; state = u })
    unfolding chosen_of
    chose_column k i = chose (column_choice _ _ x y (hop_to x dx) (hop_to y dy) z (rw (p, q, d) at k)) refl i d
