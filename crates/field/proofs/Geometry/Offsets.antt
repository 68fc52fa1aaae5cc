-- Laws of places between two others on one axis, and of two intervals on it. Each is arithmetic.
use Rattle.std.specs.Prelude.{◌≡◌, ℕ, ◌<◌, ◌≤◌, max}
use Rattle.std.proofs.Common.{arith}
use Rattle.std.proofs.Math.Decide.{dec_lt}
use Rattle.field.specs.Map.{gap}
use Rattle.field.specs.Workings.Looking.{hop_to}
use Rattle.field.proofs.Workings.AxisLaws.{Order, less, same, more, order, gap_turned, gap_above, hop_up, hop_down}
use Rattle.field.specs.Geometry.Shapes.{Between, intervals_apart}

-- A place between m and p, other than p, is nearer m than p is.
pub gap_between : (m p v : ℕ) → Between m v p → ¬ (v ≡ p) → gap m v < gap m p
gap_between m p v b n = go (order m p)
  where
    go : Order m p → gap m v < gap m p
    go (less l) = let k : m ≤ v = omega arith in omega (arith, gap_above k, gap_above {a = m} {b = p} (omega arith))
    go (same l) = absurd (omega arith)
    go (more l) =
        let k : v ≤ m = omega arith in
        omega (arith, gap_above k, gap_turned m v, gap_above {a = p} {b = m} (omega arith), gap_turned m p)

-- The hop from p towards m leads to a place between them.
pub hop_between : (m p : ℕ) → ¬ (p ≡ m) → Between m (hop_to p m) p
hop_between m p n = go (order p m)
  where
    go : Order p m → Between m (hop_to p m) p
    go (less l) = omega (arith, hop_up p m l)
    go (same e) = absurd (n e)
    go (more l) = omega (arith, hop_down p m (omega arith))

-- No two places of two intervals are nearer than the intervals, and some two are as near.
pub intervals_apart_lem : (p q r s u v : ℕ) → p ≤ u → u ≤ q → r ≤ v → v ≤ s → intervals_apart p q r s ≤ gap u v
unfolding gap intervals_apart
intervals_apart_lem p q r s u v a b c d = omega arith

pub record Closest (p q r s : ℕ) : Type 0 where
  pub u : ℕ
  pub v : ℕ
  pub from_p : p ≤ u
  pub to_q : u ≤ q
  pub from_r : r ≤ v
  pub to_s : v ≤ s
  pub far : gap u v ≡ intervals_apart p q r s

pub closest : (p q r s : ℕ) → p ≤ q → r ≤ s → Closest p q r s
unfolding gap intervals_apart
closest p q r s l m = go (dec_lt q r) (dec_lt s p)
  where
    go : Dec (q < r) → Dec (s < p) → Closest p q r s
    go (yes a) d = record { u = q; v = r; from_p = l; to_q = omega arith; from_r = omega arith; to_s = m; far = omega arith }
    go (no a) (yes b) = record { u = p; v = s; from_p = omega arith; to_q = l; from_r = m; to_s = omega arith; far = omega arith }
    go (no a) (no b) =
        let u : ℕ = max p r in
        record { u = u; v = u; from_p = omega arith; to_q = omega arith; from_r = omega arith; to_s = omega arith; far = omega arith }
