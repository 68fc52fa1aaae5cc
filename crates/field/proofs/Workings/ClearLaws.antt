-- Clear distances: a crossing has one distance each way, and looking along its row or column on a
-- sheet of the closed crossings finds it. The ways differ only in where k hops lead, so the
-- argument is made once, over any way.
use Rattle.std.specs.Prelude.{◌≡◌, refl, false, List, ◌⊎◌, ◌↔◌, ltb}
use Rattle.std.proofs.Common.{ap, ◌∙◌, inl, inr}
use Prim.Native.Nat.{ℕ, zero, suc, ◌+◌, ◌-◌, ◌<◌, ◌≤◌}
use native.Mathlib.Omega.{arith}
use Rattle.std.proofs.Math.Decide.{dec_lt}
use borrow.Author.Tests.{ltb-true, ltb-false, leb-true, le-leb}
use Rattle.field.specs.Map.{side, no_distance, Sides, On}
use Rattle.field.specs.Distances.{Way, eastward, southward, westward, northward, Along, Clear, at_closed, nearest, none}
use Rattle.field.specs.Workings.Tests.{only, cond_cases, cond_some}
use Rattle.field.specs.Workings.Sheet.{Draws, lit}
use Rattle.field.proofs.Workings.Marks.{drawn_lit, lit_drawn, drawn_looks}
use Rattle.field.specs.Workings.Looking.{lit_along, look, clear_of}
pub use Rattle.field.proofs.Workings.GridLaws.{no_distance_far, along_short}
use Rattle.field.proofs.Workings.AxisLaws.{Order, less, same, more, order}

-- A crossing has one clear distance that way.
pub clear_one : {C : ℕ → ℕ → Type 0} {t : Way} {x y n m : ℕ} → Clear C t x y n → Clear C t x y m → n ≡ m
clear_one (at_closed c e) (at_closed c' e') = omega arith
clear_one (at_closed c e) (nearest a b o l k f) = absurd (o c)
clear_one (at_closed c e) (none o f e') = absurd (o c)
clear_one (nearest a b o l k f) (at_closed c e) = absurd (o c)
clear_one {n = n} {m = m} (nearest a b o l k f) (nearest a' b' o' l' k' f') = go (order n m)
  where
    go : Order n m → n ≡ m
    go (less p) = absurd (f' n a b p l k)
    go (same p) = p
    go (more p) = absurd (f m a' b' p l' k')
clear_one {n = n} (nearest a b o l k f) (none o' f' e) = absurd (f' n a b l k)
clear_one (none o f e) (at_closed c e') = absurd (o c)
clear_one {m = m} (none o f e) (nearest a b o' l k f') = absurd (f m a b l k)
clear_one (none o f e) (none o' f' e') = omega arith

-- No hops that way lead nowhere.
along_start : (t : Way) (x y : ℕ) → Along t 0 x y x y
along_start eastward x y = omega arith
along_start southward x y = omega arith
along_start westward x y = omega arith
along_start northward x y = omega arith

-- What looking at f for n hops, from the k-th on, finds: r is the first hop with a mark, or there
-- is no mark.
pub data Looked (f : ℕ → ℕ) (n k r : ℕ) : Type 0 where
  found : 0 < f r → ((i : ℕ) → k ≤ i → i < r → f i ≡ 0) → Looked f n k r
  lost : ((i : ℕ) → k ≤ i → i < k + n → f i ≡ 0) → r ≡ no_distance → Looked f n k r

-- No mark at k, and none from there up to u.
bare_from : (f : ℕ → ℕ) (k u : ℕ) → f k ≡ 0 → ((i : ℕ) → suc k ≤ i → i < u → f i ≡ 0) → (i : ℕ) → k ≤ i → i < u → f i ≡ 0
bare_from f k u z g i p q = go (dec_lt k i)
  where
    go : Dec (k < i) → f i ≡ 0
    go (yes l) = g i l q
    go (no l) = let e : i ≡ k = omega arith in ap f e ∙ z

look_further : (f : ℕ → ℕ) (n k r : ℕ) → f k ≡ 0 → Looked f n (suc k) r → Looked f (suc n) k r
look_further f n k r z (found m g) = found m (bare_from f k r z g)
look_further f n k r z (lost g e) = lost (bare_from f k (k + suc n) z (λ i p q. g i p (omega arith))) e

pub look_looks : (n k : ℕ) (f : ℕ → ℕ) → Looked f n k (look n k f)
unfolding look
look_looks zero k f = lost (λ i p q. absurd (omega arith)) refl
look_looks (suc n) k f =
    cond_cases (Looked f (suc n) k) (ltb 0 (f k)) (λ e. found (ltb-true _ _ e) (λ i p q. absurd (omega arith)))
    (λ e. look_further f n k _ (omega (arith, ltb-false 0 (f k) e)) (look_looks n (suc k) f))

-- The mark k hops that way is that of the crossing there, and what has a mark there is a crossing.
module _ (s : List ℕ) (w h : ℕ) where
  pub along_lit : (t : Way) (k x y a b : ℕ) → Along t k x y a b → lit_along t s w h x y k ≡ lit s w h a b
  unfolding lit_along
  along_lit eastward k x y a b l = cc
  along_lit southward k x y a b l = rw (le-leb k y (omega arith)) (let e : y - k ≡ b = omega arith in cc)
  along_lit westward k x y a b l = rw (le-leb k x (omega arith)) (let e : x - k ≡ a = omega arith in cc)
  along_lit northward k x y a b l = cc

  pub lit_along_lem : (t : Way) (k x y : ℕ) → 0 < lit_along t s w h x y k → (a : ℕ) × (b : ℕ) × Along t k x y a b
  unfolding lit_along
  lit_along_lem eastward k x y m = (x + k, y, (refl, refl))
  lit_along_lem southward k x y m = let l : k ≤ y = leb-true k y (cond_some _ _ m) in (x, y - k, (refl, omega arith))
  lit_along_lem westward k x y m = let l : k ≤ x = leb-true k x (cond_some _ _ m) in (x - k, y, (omega arith, refl))
  lit_along_lem northward k x y m = (x, y + k, (refl, refl))

module _ (w h : ℕ) (C : ℕ → ℕ → Type 0) (s : List ℕ) (D : Draws w h C s) where
  -- k hops that way from (x, y) there is a closed crossing where looking finds a mark, and none
  -- where it finds no mark.
  pub along_closed : (t : Way) (k x y : ℕ) → 0 < lit_along t s w h x y k → (a : ℕ) × (b : ℕ) × Along t k x y a b × C a b
  along_closed t k x y m =
      let l = lit_along_lem s w h t k x y m in
      (l.0, l.1, l.2, lit_drawn w h C s D l.0 l.1 (omega (arith, along_lit s w h t k x y l.0 l.1 l.2)))

  pub along_free : (t : Way) (k x y a b : ℕ) → lit_along t s w h x y k ≡ 0 → Along t k x y a b → ¬ C a b
  along_free t k x y a b z l c = omega (arith, along_lit s w h t k x y a b l, drawn_lit w h C s D a b c)

  -- From an open crossing the nearest closed one is the first hop with a mark; past the map there
  -- is none.
  looked_clear : (t : Way) (x y n : ℕ) → On w h x y → ¬ C x y → Looked (lit_along t s w h x y) (suc (w + h)) 0 n → Clear C t x y n
  looked_clear t x y n o f (found m g) =
      let r = along_closed t n x y m in nearest r.0 r.1 f r.2 r.3 (λ k a b p l. along_free t k x y a b (g k (omega arith) p) l)
  looked_clear t x y n o f (lost g e) = none f (λ k a b l c. along_free t k x y a b (g k (omega arith) (short k a b l c)) l c) e
    where
      short : (k a b : ℕ) → Along t k x y a b → C a b → k < 0 + suc (w + h)
      short k a b l c = omega (arith, along_short t (w + h) w h k x y a b (omega arith) (omega arith) o (D.complete a b c).on l)

  -- What looking finds is the clear distance, and so there is one.
  pub clear_of_lem : (t : Way) (x y : ℕ) → On w h x y → Clear C t x y (clear_of t s w h x y)
  unfolding clear_of
  clear_of_lem t x y o = cond_cases (Clear C t x y) (ltb 0 (lit s w h x y)) (λ e. at_closed ((drawn_looks w h C s D x y).1 e) refl) off
    where
      f : ℕ → ℕ
      f = lit_along t s w h x y

      off : ltb 0 (lit s w h x y) ≡ false → Clear C t x y (look (w + h) 1 f)
      off e =
          let z : lit s w h x y ≡ 0 = omega (arith, ltb-false 0 (lit s w h x y) e) in
          let b = along_lit s w h t 0 x y x y (along_start t x y) ∙ z in
          looked_clear t x y _ o (λ c. omega (arith, drawn_lit w h C s D x y c)) (look_further f (w + h) 0 _ b (look_looks (w + h) 1 f))

  -- The clear distance is what looking that way finds, and nothing else.
  pub clear_looks : (t : Way) (x y n : ℕ) → On w h x y → (Clear C t x y n ↔ n ≡ clear_of t s w h x y)
  clear_looks t x y n o = only (Clear C t x y) (clear_of t s w h x y) (clear_of_lem t x y o) (λ n m. clear_one) n

  -- "the largest is 63", and "Distances reach 255" (Req 07): a clear distance is below the limit of
  -- the sides, or is the mark for none.
  pub clear_small : Sides w h → (t : Way) (x y n : ℕ) → On w h x y → Clear C t x y n → (n ≡ no_distance) ⊎ (n < side)
  clear_small d t x y n o (at_closed c e) = inr (omega arith)
  clear_small d t x y n o (nearest a b p l c f) = inr (along_short t side w h n x y a b d.most_w d.most_h o (D.complete a b c).on l)
  clear_small d t x y n o (none p f e) = inl e
