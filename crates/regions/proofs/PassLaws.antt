-- Laws of passes. A pass over one part and then over another is a pass over both, where the first
-- part has no crossing of the second and no hop from it towards the pass's end leads into the
-- second: what the first part has settled then stays.
use mathlib.Core.Path.{◌≡◌, refl, sym, ap, ◌∙◌}
use mathlib.Core.Bool.{Bool, false, cond, ◌&&◌, and-false}
use mathlib.Core.List.{List}
use mathlib.Core.Logic.{◌⊎◌, inl, inr}
use Prim.Native.Nat.{ℕ, ◌*◌, ◌<◌}
use native.Mathlib.Omega.{arith}
use native.Mathlib.Decide.{dec_lt, ℕ_discrete}
use lib.Dec.{ltb, eqb}
use lib.ListN.{length, set, length-set}
use lib.Seq.{get_or-set_same, get_or-set_other}
use borrow.Author.Tests.{le-ltb, eq-eqb}
use Rattle.field.specs.Map.{On, number, at, Apart}
use Rattle.field.specs.Workings.Sheet.{bit, lit, number_lt}
use Rattle.field.specs.Workings.Looking.{hop_to}
use Rattle.field.specs.Workings.Reaching.{east_west_in, north_south_in}
use Rattle.field.proofs.Workings.GridLaws.{Toward, along_row, along_column, toward_near, near_apart, number_one}
use Rattle.regions.specs.Passes.{backed, Pass}

-- Looks on two sheets that agree give the same.
lit_same : (g g' : List ℕ) (w h x y : ℕ) → (On w h x y → at g w x y ≡ at g' w x y) → lit g w h x y ≡ lit g' w h x y
unfolding lit
lit_same g g' w h x y f = go (dec_lt x w) (dec_lt y h)
  where
    go : Dec (x < w) → Dec (y < h) → lit g w h x y ≡ lit g' w h x y
    go (yes p) (yes q) = ap (λ (v : ℕ). bit (ltb x w && (ltb y h && ltb 0 v))) (f (record { in_x = p; in_y = q }))
    go (yes p) (no q) = simp (le-ltb y h (omega arith), and-false)
    go (no p) q = simp (le-ltb x w (omega arith))

off_same : (p d : ℕ) (s t : Bool) → (¬ (p ≡ d) → s ≡ t) → cond (eqb p d) false s ≡ cond (eqb p d) false t
off_same p d s t f = go (ℕ_discrete p d)
  where
    go : Dec (p ≡ d) → cond (eqb p d) false s ≡ cond (eqb p d) false t
    go (yes e) = simp (eq-eqb p d e)
    go (no n) = ap (cond (eqb p d) false) (f n)

backed_same : (g g' : List ℕ) (w h ex ey x y : ℕ) → ((a b : ℕ) → On w h a b → Toward ex ey x y a b → at g w a b ≡ at g' w a b)
    → backed g w h ex ey x y ≡ backed g' w h ex ey x y
unfolding backed east_west_in north_south_in
backed_same g g' w h ex ey x y f = rw (row, column)
  where
    row : cond (eqb x ex) false (ltb 0 (lit g w h (hop_to x ex) y)) ≡ cond (eqb x ex) false (ltb 0 (lit g' w h (hop_to x ex) y))
    row = off_same x ex _ _ (λ n. ap (ltb 0) (lit_same g g' w h (hop_to x ex) y (λ o. f _ _ o (along_row n refl refl))))

    column : cond (eqb y ey) false (ltb 0 (lit g w h x (hop_to y ey))) ≡ cond (eqb y ey) false (ltb 0 (lit g' w h x (hop_to y ey)))
    column = off_same y ey _ _ (λ n. ap (ltb 0) (lit_same g g' w h x (hop_to y ey) (λ o. f _ _ o (along_column n refl refl))))

-- A store changes one crossing.
module _ (w h : ℕ) (g : List ℕ) (size : length g ≡ h * w) {a b : ℕ} (o : On w h a b) (u : ℕ) where
  store_here : at (set g (number w a b) u) w a b ≡ u
  store_here = get_or-set_same g (number w a b) u 0 (omega (arith, number_lt w h a b o))

  store_other : {x y : ℕ} → On w h x y → Apart x y a b → at (set g (number w a b) u) w x y ≡ at g w x y
  store_other {x} {y} p n = get_or-set_other g (number w a b) (number w x y) u 0 (λ e. n (number_one o p e))

module _ (w h ex ey : ℕ) where
  -- No pass, and a pass over one crossing.
  pub pass_none : (P : ℕ → ℕ → Type 0) (v : ℕ → ℕ → ℕ) (g : List ℕ) → ((x y : ℕ) → ¬ P x y) → Pass w h ex ey P v g g
  pass_none P v g n = record { size = refl; passed = λ x y o p. absurd (n x y p); other = λ x y o p. refl }

  pub pass_one : {a b : ℕ} (v : ℕ → ℕ → ℕ) (g g' : List ℕ) → length g ≡ h * w → On w h a b
      → g' ≡ set g (number w a b) (cond (backed g w h ex ey a b) (v a b) 0) → Pass w h ex ey (λ x y. (x ≡ a) × (y ≡ b)) v g g'
  pass_one {a} {b} v g g' size o e =
      record {
        size = ap length e ∙ length-set g (number w a b) _;
        passed = λ x y p s. rw (s.0, s.1) here;
        other = λ x y p n. other x y p n;
      }
    where
      other : (x y : ℕ) → On w h x y → Apart x y a b → at g' w x y ≡ at g w x y
      other x y p n = rw e (store_other w h g size o _ p n)

      still : backed g w h ex ey a b ≡ backed g' w h ex ey a b
      still = backed_same g g' w h ex ey a b (λ c d p t. sym (other c d p (λ s. near_apart (toward_near t) s.0 s.1)))

      here : at g' w a b ≡ cond (backed g' w h ex ey a b) (v a b) 0
      here = rw (← still, e) (store_here w h g size o _)

  -- A pass over a part by any other name.
  pub pass_over : {P Q : ℕ → ℕ → Type 0} {v : ℕ → ℕ → ℕ} {g g' : List ℕ} → ((x y : ℕ) → P x y → Q x y) → ((x y : ℕ) → Q x y → P x y)
      → Pass w h ex ey P v g g' → Pass w h ex ey Q v g g'
  pass_over to from p =
      record {
        size = p.size;
        passed = λ x y o q. p.passed x y o (from x y q);
        other = λ x y o n. p.other x y o (λ q. n (to x y q));
      }

-- R is P and then Q: no crossing of P, and no hop from one towards (ex, ey), is in Q.
pub record Follows (ex ey : ℕ) (P Q R : ℕ → ℕ → Type 0) : Type 0 where
  pub apart : (x y : ℕ) → P x y → ¬ Q x y
  pub behind : (x y a b : ℕ) → P x y → Toward ex ey x y a b → ¬ Q a b
  pub split : (x y : ℕ) → R x y → P x y ⊎ Q x y
  pub first : (x y : ℕ) → P x y → R x y
  pub second : (x y : ℕ) → Q x y → R x y

module _ (w h ex ey : ℕ) {P Q R : ℕ → ℕ → Type 0} (f : Follows ex ey P Q R) where
  pub pass_then : {v : ℕ → ℕ → ℕ} {g g₁ g₂ : List ℕ} → Pass w h ex ey P v g g₁ → Pass w h ex ey Q v g₁ g₂ → Pass w h ex ey R v g g₂
  pass_then {v} {g} {g₁} {g₂} p q =
      record {
        size = q.size ∙ p.size;
        passed = λ x y o r. go x y o (f.split x y r);
        other = λ x y o n. q.other x y o (λ s. n (f.second x y s)) ∙ p.other x y o (λ s. n (f.first x y s));
      }
    where
      still : (x y : ℕ) → P x y → backed g₁ w h ex ey x y ≡ backed g₂ w h ex ey x y
      still x y s = backed_same g₁ g₂ w h ex ey x y (λ a b o t. sym (q.other a b o (f.behind x y a b s t)))

      go : (x y : ℕ) → On w h x y → P x y ⊎ Q x y → at g₂ w x y ≡ cond (backed g₂ w h ex ey x y) (v x y) 0
      go x y o (inl s) = rw (← still x y s) (q.other x y o (f.apart x y s) ∙ p.passed x y o s)
      go x y o (inr s) = q.passed x y o s
