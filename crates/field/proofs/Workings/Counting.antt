-- Working: how many crossings a sheet marks; and that this is how many there are of what it draws,
-- however that is decided.
use Rattle.std.specs.Prelude.{◌≡◌, refl, Bool, true, false, List, ◌↔◌, ℕ, zero, suc, ◌+◌, ◌<◌, ◌≤◌}
use Rattle.std.proofs.Common.{sym, ap, ◌∙◌, arith}
use Rattle.std.proofs.lemmas.Bool.{false≢true}
use Rattle.std.proofs.Math.Decide.{dec_lt}
use Rattle.field.specs.Map.{On}
use Rattle.field.specs.Labels.{sum_to, one, count, Count}
use Rattle.field.specs.Workings.Tests.{bit}
use Rattle.field.specs.Workings.Sheet.{Draws, lit}
use Rattle.field.proofs.Workings.Marks.{drawn_dec, drawn_lit, undrawn_lit}

-- The sum of f over the map.
unfoldable pub tally : ℕ → ℕ → (ℕ → ℕ → ℕ) → ℕ
tally w h f = sum_to h (λ y. sum_to w (λ x. f x y))

pub sum_same : (n : ℕ) (f g : ℕ → ℕ) → ((k : ℕ) → k < n → f k ≡ g k) → sum_to n f ≡ sum_to n g
unfolding sum_to
sum_same zero f g e = refl
sum_same (suc n) f g e = omega (arith, sum_same n f g (λ k l. e k (omega arith)), e n (omega arith))

-- Sums of numbers that are nowhere less are no less; and where such sums are equal, so are the
-- numbers.
pub sum_le : (n : ℕ) (f g : ℕ → ℕ) → ((k : ℕ) → k < n → f k ≤ g k) → sum_to n f ≤ sum_to n g
unfolding sum_to
sum_le zero f g l = omega arith
sum_le (suc n) f g l = omega (arith, sum_le n f g (λ k m. l k (omega arith)), l n (omega arith))

pub sum_le_same : (n : ℕ) (f g : ℕ → ℕ) → ((k : ℕ) → k < n → f k ≤ g k) → sum_to n f ≡ sum_to n g → (k : ℕ) → k < n → f k ≡ g k
unfolding sum_to
sum_le_same zero f g l e k m = absurd (omega arith)
sum_le_same (suc n) f g l e k m = go (dec_lt k n) (λ i. sum_le_same n f g (λ k m. l k (omega arith)) i k)
  where
    below : sum_to n f ≤ sum_to n g
    below = sum_le n f g (λ k m. l k (omega arith))

    go : Dec (k < n) → (sum_to n f ≡ sum_to n g → k < n → f k ≡ g k) → f k ≡ g k
    go (yes b) r = r (omega (arith, below, l n (omega arith))) b
    go (no b) r =
        let i : n ≡ k = omega arith in
        let here : f n ≡ g n = omega (arith, below, l n (omega arith)) in
        ap f (sym i) ∙ here ∙ ap g i

pub sum_plus : (n : ℕ) (f g : ℕ → ℕ) → sum_to n (λ k. f k + g k) ≡ sum_to n f + sum_to n g
unfolding sum_to
sum_plus zero f g = refl
sum_plus (suc n) f g = omega (arith, sum_plus n f g)

-- The same of sums over the map.
module _ (w h : ℕ) (f g : ℕ → ℕ → ℕ) (l : (x y : ℕ) → x < w → y < h → f x y ≤ g x y) where
  row_le : (y : ℕ) → y < h → sum_to w (λ x. f x y) ≤ sum_to w (λ x. g x y)
  row_le y q = sum_le w (λ x. f x y) (λ x. g x y) (λ x p. l x y p q)

  pub tally_le : tally w h f ≤ tally w h g
  unfolding tally
  tally_le = sum_le h (λ y. sum_to w (λ x. f x y)) (λ y. sum_to w (λ x. g x y)) row_le

  pub tally_le_same : tally w h f ≡ tally w h g → (x y : ℕ) → x < w → y < h → f x y ≡ g x y
  unfolding tally
  tally_le_same e x y p q =
      sum_le_same w (λ x. f x y) (λ x. g x y) (λ x p. l x y p q)
      (sum_le_same h (λ y. sum_to w (λ x. f x y)) (λ y. sum_to w (λ x. g x y)) row_le e y q) x p

pub tally_same : (w h : ℕ) (f g : ℕ → ℕ → ℕ) → ((x y : ℕ) → x < w → y < h → f x y ≡ g x y) → tally w h f ≡ tally w h g
unfolding tally
tally_same w h f g e = sum_same h _ _ (λ y q. sum_same w _ _ (λ x p. e x y p q))

pub tally_plus : (w h : ℕ) (f g : ℕ → ℕ → ℕ) → tally w h (λ x y. f x y + g x y) ≡ tally w h f + tally w h g
unfolding tally
tally_plus w h f g =
    sum_same h (λ y. sum_to w (λ x. f x y + g x y)) (λ y. sum_to w (λ x. f x y) + sum_to w (λ x. g x y))
    (λ y l. sum_plus w (λ x. f x y) (λ x. g x y))
    ∙ sum_plus h (λ y. sum_to w (λ x. f x y)) (λ y. sum_to w (λ x. g x y))

-- A sum over the map is settled by what stands at its crossings.
pub count_tally : (w h : ℕ) (P : ℕ → ℕ → Type 0) (d : (x y : ℕ) → Dec (P x y)) (f : ℕ → ℕ → ℕ)
    → ((x y : ℕ) → x < w → y < h → one (d x y) ≡ f x y) → count w h P d ≡ tally w h f
unfolding count tally
count_tally w h P d f e = sum_same h _ _ (λ y q. sum_same w _ _ (λ x p. e x y p q))

module _ (w h : ℕ) (P : ℕ → ℕ → Type 0) (s : List ℕ) (D : Draws w h P s) where
  one_lit : (x y : ℕ) (d : Dec (P x y)) → one d ≡ lit s w h x y
  one_lit x y (yes p) = sym (drawn_lit w h P s D x y p)
  one_lit x y (no n) = sym (undrawn_lit w h P s D x y n)

  pub count_marks : (n : ℕ) → Count w h P n ↔ (n ≡ tally w h (lit s w h))
  count_marks n = (λ c. c.1 ∙ whole c.0, λ e. (drawn_dec w h P s D, e ∙ sym (whole (drawn_dec w h P s D))))
    where
      whole : (d : (x y : ℕ) → Dec (P x y)) → count w h P d ≡ tally w h (lit s w h)
      whole d = count_tally w h P d (lit s w h) (λ x y p q. one_lit x y (d x y))

-- How many there are does not depend on how the set is decided, nor on how it is said.
pub one_same : {P Q : Type 0} → P ↔ Q → (d : Dec P) (e : Dec Q) → one d ≡ one e
one_same s (yes p) (yes q) = refl
one_same s (yes p) (no n) = absurd (n (s.0 p))
one_same s (no n) (yes q) = absurd (n (s.1 q))
one_same s (no n) (no m) = refl

-- P and Q have the same crossings of the map.
abbrev pub Same : ℕ → ℕ → (ℕ → ℕ → Type 0) → (ℕ → ℕ → Type 0) → Type 0
Same w h P Q = (x y : ℕ) → On w h x y → P x y ↔ Q x y

module _ {w h : ℕ} {P Q : ℕ → ℕ → Type 0} (s : Same w h P Q) where
  pub count_decided : (d : (x y : ℕ) → Dec (P x y)) (e : (x y : ℕ) → Dec (Q x y)) → count w h P d ≡ count w h Q e
  unfolding count
  count_decided d e = sum_same h _ _ (λ y l. sum_same w _ _ (λ x k. one_same (s x y (record { in_x = k; in_y = l })) (d x y) (e x y)))

  pub count_same : {n m : ℕ} → Count w h P n → Count w h Q m → n ≡ m
  count_same c k = c.1 ∙ count_decided c.0 k.0 ∙ sym k.1

  pub count_moved : {n : ℕ} → ((x y : ℕ) → Dec (Q x y)) → Count w h P n → Count w h Q n
  count_moved e c = (e, c.1 ∙ count_decided c.0 e)

pub count_one : (w h : ℕ) {P : ℕ → ℕ → Type 0} {n m : ℕ} → Count w h P n → Count w h P m → n ≡ m
count_one w h = count_same {w = w} {h = h} (λ x y o. (λ p. p, λ p. p))

-- Of what no crossing is in there are none.
sum_zero : (n : ℕ) → sum_to n (λ k. 0) ≡ 0
unfolding sum_to
sum_zero zero = refl
sum_zero (suc n) = omega (arith, sum_zero n)

pub count_none : (w h : ℕ) {P : ℕ → ℕ → Type 0} {n : ℕ} → ((x y : ℕ) → ¬ P x y) → Count w h P n → n ≡ 0
unfolding tally
count_none w h {P} f c =
    c.1 ∙ count_tally w h P c.0 (λ x y. 0) (λ x y p q. none (c.0 x y) (f x y)) ∙ sum_same h _ _ (λ y l. sum_zero w) ∙ sum_zero h
  where
    none : {Q : Type 0} (d : Dec Q) → ¬ Q → one d ≡ 0
    none (yes q) n = absurd (n q)
    none (no m) n = refl

-- What a test tells of each crossing of the map is counted by the test.
pub count_tests : (w h : ℕ) (P : ℕ → ℕ → Type 0) (f : ℕ → ℕ → Bool) → ((x y : ℕ) → On w h x y → (P x y ↔ f x y ≡ true))
    → ((x y : ℕ) → Dec (P x y)) → Count w h P (tally w h (λ x y. bit (f x y)))
count_tests w h P f t d = (d, sym (count_tally w h P d (λ x y. bit (f x y)) (λ x y p q. each (d x y) (t x y (record { in_x = p; in_y = q })))))
  where
    each : {Q : Type 0} {b : Bool} (e : Dec Q) → (Q ↔ b ≡ true) → one e ≡ bit b
    each {b = true} (yes q) k = refl
    each {b = false} (yes q) k = absurd (false≢true (k.0 q))
    each {b = true} (no n) k = absurd (n (k.1 refl))
    each {b = false} (no n) k = refl
