-- The sum of the words: what a store does to it, and that it is bounded. It is the measure by which
-- sweeping ends.
use mathlib.Core.Path.{◌≡◌}
use mathlib.Core.List.{List, [], ◌∷◌}
use Prim.Native.Nat.{ℕ, zero, suc, ◌+◌, ◌*◌, ◌^◌, ◌<◌, ◌≤◌}
use native.Mathlib.Omega.{arith}
use lib.ListN.{length, get_or, set}
use Rattle.closing.specs.Growth.{total}

pub total_set : (c : List ℕ) (i v : ℕ) → i < length c → total (set c i v) + get_or c i 0 ≡ total c + v
unfolding total
total_set [] i v l = absurd (omega arith)
total_set (u ∷ c) zero v l = omega arith
total_set (u ∷ c) (suc i) v l = omega (arith, total_set c i v (omega arith))

pub total_le : (c : List ℕ) → ((i : ℕ) → get_or c i 0 < 2 ^ 64) → total c ≤ length c * 2 ^ 64
unfolding total
total_le [] f = omega arith
total_le (u ∷ c) f = omega (arith, f 0, total_le c (λ i. f (suc i)))
