-- Laws of one axis: hops towards an end, and the coordinates on the way between two ends. A
-- coordinate on the way is fixed by how far it is from the start, and a hop towards the end brings
-- it one farther.
use mathlib.Core.Path.{◌≡◌}
use Prim.Native.Nat.{ℕ, ◌+◌, ◌-◌, ◌<◌, ◌≤◌}
use native.Mathlib.Omega.{arith}
use borrow.Author.Tests.{lt-ltb, le-ltb}
use Rattle.field.specs.Map.{gap}
use Rattle.field.specs.Workings.Looking.{hop_to}
use Rattle.field.proofs.Workings.GridLaws.{Order, less, same, more, order, gap_turned}
use Rattle.regions.specs.Passes.{OnWay, Along}

-- A hop towards d, from below it and from above it.
pub hop_up : {p d : ℕ} → p < d → hop_to p d ≡ p + 1
unfolding hop_to
hop_up {p} {d} l = simp (lt-ltb p d l)

pub hop_down : {p d : ℕ} → d < p → hop_to p d + 1 ≡ p
unfolding hop_to
hop_down {p} {d} l = simp (le-ltb p d (omega arith)) (omega arith)

-- p is between a and b, in the sense in which a comes before b, or in the other.
data Between (a b p : ℕ) : Type 0 where
  up : a ≤ p → p ≤ b → Between a b p
  down : b ≤ p → p ≤ a → Between a b p

way_between : {a b p : ℕ} → OnWay a b p → Between a b p
unfolding gap
way_between {a} {b} {p} e = go (order a p) (order p b)
  where
    go : Order a p → Order p b → Between a b p
    go (less l) (less m) = up (omega arith) (omega arith)
    go (less l) (same m) = up (omega arith) (omega arith)
    go (less l) (more m) = absurd (omega arith)
    go (same l) (less m) = up (omega arith) (omega arith)
    go (same l) (same m) = up (omega arith) (omega arith)
    go (same l) (more m) = down (omega arith) (omega arith)
    go (more l) (less m) = absurd (omega arith)
    go (more l) (same m) = down (omega arith) (omega arith)
    go (more l) (more m) = down (omega arith) (omega arith)

between_way : {a b p : ℕ} → Between a b p → OnWay a b p
unfolding gap
between_way (up l m) = record { direct = omega arith }
between_way (down l m) = record { direct = omega arith }

-- The way back is the same way.
pub way_turned : {a b p : ℕ} → OnWay a b p → OnWay b a p
way_turned {a} {b} {p} e = record { direct = omega (arith, e.direct, gap_turned a p, gap_turned p b, gap_turned a b) }

-- What is on the way is on the map.
pub way_lt : {a b p w : ℕ} → OnWay a b p → a < w → b < w → p < w
way_lt {a} {b} {p} {w} e l m = go (way_between e)
  where
    go : Between a b p → p < w
    go (up s t) = omega arith
    go (down s t) = omega arith

-- A coordinate on the way is fixed by how far it is from the start.
pub way_one : {a b p q : ℕ} → OnWay a b p → OnWay a b q → gap a p ≡ gap a q → p ≡ q
unfolding gap
way_one {a} {b} {p} {q} e f s = go (way_between e) (way_between f)
  where
    go : Between a b p → Between a b q → p ≡ q
    go (up k l) (up m n) = omega arith
    go (up k l) (down m n) = omega arith
    go (down k l) (up m n) = omega arith
    go (down k l) (down m n) = omega arith

-- A hop towards the end is on the way.
pub way_hop : {a b p : ℕ} → OnWay a b p → ¬ (p ≡ b) → OnWay a b (hop_to p b)
way_hop {a} {b} {p} e n = go (way_between e)
  where
    go : Between a b p → OnWay a b (hop_to p b)
    go (up k l) = let m : p < b = omega arith in between_way (up (omega (arith, hop_up m)) (omega (arith, hop_up m)))
    go (down k l) = let m : b < p = omega arith in between_way (down (omega (arith, hop_down m)) (omega (arith, hop_down m)))

-- The place k hops on from a towards b: above a where b is, and else below.
pub along_up : {a b k : ℕ} → a < b → k ≤ gap a b → Along a b k (a + k)
unfolding gap
along_up l m = record { way = record { direct = omega arith }; far = omega arith }

pub along_down : {a b k : ℕ} → b ≤ a → k ≤ gap a b → Along a b k (a - k)
unfolding gap
along_down l m = record { way = record { direct = omega arith }; far = omega arith }

-- A hop towards the start is one nearer it.
pub back_nearer : {a p : ℕ} → ¬ (p ≡ a) → gap a (hop_to p a) + 1 ≡ gap a p
unfolding gap
back_nearer {a} {p} n = go (order p a)
  where
    go : Order p a → gap a (hop_to p a) + 1 ≡ gap a p
    go (less l) = omega (arith, hop_up l)
    go (same e) = absurd (n e)
    go (more l) = omega (arith, hop_down l)

-- A hop towards a coordinate of the map is on the map.
pub hop_lt : {p d w : ℕ} → ¬ (p ≡ d) → p < w → d < w → hop_to p d < w
hop_lt {p} {d} {w} n l m = go (order p d)
  where
    go : Order p d → hop_to p d < w
    go (less k) = omega (arith, hop_up k)
    go (same e) = absurd (n e)
    go (more k) = omega (arith, hop_down k)
