-- Working: a depot's four numbers, one crossing after the other, from three tests on each.
use Rattle.std.specs.Prelude.{Bool, not, ◌&&◌}
use Prim.Native.Nat.{ℕ, zero, suc, ◌+◌, ◌^◌, ◌<◌, ◌≤◌}
use Rattle.field.specs.declared.Placing.{Placing}
use Rattle.field.specs.Depots.{four, all_zero}
use Rattle.field.specs.Workings.Tests.{bit}

-- What a crossing adds to the four numbers, by three tests: whether it is open, whether the depot
-- is assured for it if it is, and whether it then has a shortest drive to the depot.
abbrev pub adds : Bool → Bool → Bool → Placing
adds o a m = four (bit o) (bit (o && a)) (bit (o && (not a && m))) (bit (o && not m))

-- Sums, number by number: of two, of f 0 to f (n - 1), and over the map.
abbrev pub plus : Placing → Placing → Placing
plus p q = four (p.opens + q.opens) (p.assured + q.assured) (p.driven + q.driven) (p.stranded + q.stranded)

unfoldable pub total_to : ℕ → (ℕ → Placing) → Placing
total_to zero f = all_zero
total_to (suc n) f = plus (total_to n f) (f n)

abbrev pub total : ℕ → ℕ → (ℕ → ℕ → Placing) → Placing
total w h f = total_to h (λ y. total_to w (λ x. f x y))

-- Each of the four fits 64 bits.
pub record Fitting (p : Placing) : Type 0 where
  pub opens_fit : p.opens < 2 ^ 64
  pub assured_fit : p.assured < 2 ^ 64
  pub driven_fit : p.driven < 2 ^ 64
  pub stranded_fit : p.stranded < 2 ^ 64

-- Each of the four is at most k.
pub record AtMost (k : ℕ) (p : Placing) : Type 0 where
  pub opens_most : p.opens ≤ k
  pub assured_most : p.assured ≤ k
  pub driven_most : p.driven ≤ k
  pub stranded_most : p.stranded ≤ k
