-- Bits that tell of each crossing whether it is in a set: their sum counts the set.
use mathlib.Core.Path.{◌≡◌, sym, ◌∙◌}
use Prim.Native.Nat.{ℕ, ◌<◌, ◌≤◌}
use native.Mathlib.Omega.{arith}
use native.Mathlib.Decide.{dec_lt, ℕ_discrete}
use Rattle.field.specs.Map.{On}
use Rattle.field.specs.Labels.{one, Count}
use Rattle.field.proofs.Workings.Counting.{tally, count_tally}

-- The bit n tells whether P.
pub data Tells (P : Type 0) (n : ℕ) : Type 0 where
  is_so : P → n ≡ 1 → Tells P n
  is_not : ¬ P → n ≡ 0 → Tells P n

pub tells_one : {P : Type 0} {n : ℕ} (d : Dec P) → Tells P n → one d ≡ n
tells_one (yes p) (is_so q e) = sym e
tells_one (yes p) (is_not f e) = absurd (f p)
tells_one (no f) (is_so q e) = absurd (f q)
tells_one (no f) (is_not g e) = sym e

pub tells : {P : Type 0} {n : ℕ} → n ≤ 1 → (n ≡ 1 → P) → (P → n ≡ 1) → Tells P n
tells {P} {n} l f g = go (ℕ_discrete n 1)
  where
    go : Dec (n ≡ 1) → Tells P n
    go (yes e) = is_so (f e) e
    go (no m) = is_not (λ p. m (g p)) (omega arith)

-- Bits that tell of each crossing of the map whether it is in P count the crossings of P.
module _ (w h : ℕ) (P : ℕ → ℕ → Type 0) (f : ℕ → ℕ → ℕ) (on : (x y : ℕ) → P x y → On w h x y) (t : (x y : ℕ) → On w h x y → Tells (P x y) (f x y))
  where
    pub tells_dec : (x y : ℕ) → Dec (P x y)
    tells_dec x y = go (dec_lt x w) (dec_lt y h)
      where
        told : Tells (P x y) (f x y) → Dec (P x y)
        told (is_so p e) = yes p
        told (is_not n e) = no n

        go : Dec (x < w) → Dec (y < h) → Dec (P x y)
        go (yes p) (yes q) = told (t x y (record { in_x = p; in_y = q }))
        go (yes p) (no q) = no (λ v. q (on x y v).in_y)
        go (no p) q = no (λ v. p (on x y v).in_x)

    pub count_told : (n : ℕ) → n ≡ tally w h f → Count w h P n
    count_told n e =
        (tells_dec, e ∙ sym (count_tally w h P tells_dec f (λ x y p q. tells_one (tells_dec x y) (t x y (record { in_x = p; in_y = q })))))
