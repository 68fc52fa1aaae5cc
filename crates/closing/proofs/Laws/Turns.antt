-- Whose turn it is: what had its turn before turn k + 1, had it before turn k or has it at turn k.
use Rattle.std.proofs.Common.{◌≡◌, Bool, true, false, ℕ, ◌+◌, ◌<◌, ◌⊎◌, inl, inr, refl, arith}
use Rattle.std.proofs.Math.Decide.{ℕ_discrete}
use Rattle.closing.specs.Growth.{turn_of}

pub turn_below : (b : Bool) {n k : ℕ} → k < n → turn_of b n k < n
turn_below false l = l
turn_below true l = omega arith

-- Turn k is that of `turn_of b n k`, whose own turn is k.
pub turn_back : (b : Bool) {n k : ℕ} → k < n → turn_of b n (turn_of b n k) ≡ k
turn_back false l = refl
turn_back true l = omega arith

pub turn_next : (b : Bool) {n k a : ℕ} {P Q : Type 0} → k < n → a < n → turn_of b n a < k + 1 → (turn_of b n a < k → P) → (a ≡ turn_of b n k → Q) → P ⊎ Q
turn_next b {n} {k} {a} {P} {Q} m l t f g = go (ℕ_discrete (turn_of b n a) k)
  where
    same : (b : Bool) → turn_of b n a ≡ k → a ≡ turn_of b n k
    same false e = e
    same true e = omega arith

    go : Dec (turn_of b n a ≡ k) → P ⊎ Q
    go (yes e) = inr (g (same b e))
    go (no n) = inl (f (omega arith))
