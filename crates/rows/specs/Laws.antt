-- What the proofs of several crates use: a word stored among others, words of zeros, and one row or
-- word more.
use Rattle.std.specs.Prelude.{◌≡◌, refl, List, ◌⊎◌, ℕ, zero, suc, ◌+◌, ◌-◌, ◌<◌, ◌≤◌, length, get_or, set, replicate}
use Rattle.std.proofs.Common.{inl, inr, arith, get_or-set_same, get_or-set_other}
use Rattle.std.proofs.Math.Decide.{ℕ_discrete}

-- After a store: what holds at this word, and at another.
pub by_set : (c : List ℕ) (i r : ℕ) → i < length c → (P : ℕ → Type 0) (k : ℕ) → (k ≡ i → P r) → ((k ≡ i → ⊥) → P (get_or c k 0)) → P (get_or (set c i r) k 0)
by_set c i r l P k a b = go (ℕ_discrete k i)
  where
    go : Dec (k ≡ i) → P (get_or (set c i r) k 0)
    go (yes e) = rw (e, get_or-set_same c i r 0 l) (a e)
    go (no n) = rw (get_or-set_other c i k r 0 n) (b n)

-- A list of zeros has zeros.
pub zeros_at : (n i : ℕ) → ◌≡◌ {A = ℕ} (get_or (replicate n zero) i zero) zero
zeros_at zero i = refl
zeros_at (suc n) zero = refl
zeros_at (suc n) (suc i) = zeros_at n i

-- Of those up to y: the last, or one before it. Of those from y - 1 on: the first, or one behind
-- it.
pub last_or_before : {P Q : Type 0} (y j : ℕ) → j < y + 1 → (j < y → P) → (j ≡ y → Q) → P ⊎ Q
last_or_before {P} {Q} y j l f g = go (ℕ_discrete j y)
  where
    go : Dec (j ≡ y) → P ⊎ Q
    go (yes e) = inr (g e)
    go (no n) = inl (f (omega arith))

pub first_or_behind : {P Q : Type 0} (y j : ℕ) → 0 < y → y - 1 ≤ j → (y ≤ j → P) → (j ≡ y - 1 → Q) → P ⊎ Q
first_or_behind {P} {Q} y j p l f g = go (ℕ_discrete j (y - 1))
  where
    go : Dec (j ≡ y - 1) → P ⊎ Q
    go (yes e) = inr (g e)
    go (no n) = inl (f (omega arith))
