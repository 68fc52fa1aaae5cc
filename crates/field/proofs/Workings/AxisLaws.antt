-- Laws of one axis: which of two places on it comes first, the next place, the offset, and one hop
-- from a place towards another. Each is arithmetic, and what is said of crossings follows from
-- these.
use Rattle.std.specs.Prelude.{◌≡◌, ◌≢◌, ℕ, ◌+◌, ◌-◌, ◌<◌, ◌≤◌}
use Rattle.std.proofs.Common.{sym, arith, lt-ltb, le-ltb}
use Rattle.std.proofs.Math.Decide.{dec_lt}
use Rattle.field.specs.Map.{gap}
use Rattle.field.specs.Workings.Looking.{hop_to}

-- Two numbers are in one of three orders.
pub data Order (a b : ℕ) : Type 0 where
  less : a < b → Order a b
  same : a ≡ b → Order a b
  more : b < a → Order a b

pub order : (a b : ℕ) → Order a b
order a b = go (dec_lt a b) (dec_lt b a)
  where
    go : Dec (a < b) → Dec (b < a) → Order a b
    go (yes l) d = less l
    go (no l) (yes m) = more m
    go (no l) (no m) = same (omega arith)

-- a is next to p, upwards or downwards.
pub data Step (p a : ℕ) : Type 0 where
  up : a ≡ p + 1 → Step p a
  down : a + 1 ≡ p → Step p a

pub step_turned : {p a : ℕ} → Step p a → Step a p
step_turned (up e) = down (sym e)
step_turned (down e) = up (sym e)

pub step_other : {p a : ℕ} → Step p a → a ≢ p
step_other (up e) = omega arith
step_other (down e) = omega arith

-- The offset is 0 between a place and itself and nowhere else, the same both ways, no longer than
-- by a detour, and what is to be added to the lower place. Places with offset 1 are next to each
-- other.
pub gap_none : {a b : ℕ} → a ≡ b → gap a b ≡ 0
unfolding gap
gap_none e = omega arith

pub gap_zero : (a b : ℕ) → gap a b ≡ 0 → a ≡ b
unfolding gap
gap_zero a b e = omega arith

pub gap_turned : (a b : ℕ) → gap a b ≡ gap b a
unfolding gap
gap_turned a b = omega arith

pub gap_detour : (a b c : ℕ) → gap a c ≤ gap a b + gap b c
unfolding gap
gap_detour a b c = omega arith

pub gap_above : {a b : ℕ} → a ≤ b → a + gap a b ≡ b
unfolding gap
gap_above l = omega arith

pub gap_step : (a b : ℕ) → gap a b ≡ 1 → Step a b
unfolding gap
gap_step a b e = go (order a b)
  where
    go : Order a b → Step a b
    go (less l) = up (omega arith)
    go (same l) = absurd (omega arith)
    go (more l) = down (omega arith)

-- m and n differ by one: m is the nearer, or the farther.
pub data OneApart (m n : ℕ) : Type 0 where
  nearer : m + 1 ≡ n → OneApart m n
  farther : m ≡ n + 1 → OneApart m n

pub apart_turned : {m n : ℕ} → OneApart m n → OneApart n m
apart_turned (nearer e) = farther (omega arith)
apart_turned (farther e) = nearer (omega arith)

-- A step changes the offset by one.
gap_up : (a p d : ℕ) → a ≡ p + 1 → OneApart (gap a d) (gap p d)
unfolding gap
gap_up a p d e = go (dec_lt p d)
  where
    go : Dec (p < d) → OneApart (gap a d) (gap p d)
    go (yes l) = nearer (omega arith)
    go (no l) = farther (omega arith)

pub step_gap : {p a : ℕ} (d : ℕ) → Step p a → OneApart (gap a d) (gap p d)
step_gap {p} {a} d (up e) = gap_up a p d e
step_gap {p} {a} d (down e) = apart_turned (gap_up p a d (sym e))

-- One hop from p towards d along an axis: of the two places next to p, one is nearer d, and that is
-- where the hop goes.
pub hop_up : (p d : ℕ) → p < d → hop_to p d ≡ p + 1
unfolding hop_to
hop_up p d l = rw (lt-ltb p d l)

pub hop_down : (p d : ℕ) → d ≤ p → hop_to p d ≡ p - 1
unfolding hop_to
hop_down p d l = rw (le-ltb p d l)

pub hop_step : (p d : ℕ) → p ≢ d → Step p (hop_to p d)
hop_step p d n = go (dec_lt p d)
  where
    go : Dec (p < d) → Step p (hop_to p d)
    go (yes l) = up (hop_up p d l)
    go (no l) = down (omega (arith, hop_down p d (omega arith)))

pub hop_nearer : (p d : ℕ) → p ≢ d → gap (hop_to p d) d + 1 ≡ gap p d
unfolding gap
hop_nearer p d n = go (dec_lt p d)
  where
    go : Dec (p < d) → gap (hop_to p d) d + 1 ≡ gap p d
    go (yes l) = omega (arith, hop_up p d l)
    go (no l) = omega (arith, hop_down p d (omega arith))

pub step_hop : (p a d : ℕ) → Step p a → gap a d + 1 ≡ gap p d → a ≡ hop_to p d
unfolding gap
step_hop p a d (up e) n = omega (arith, hop_up p d (omega arith))
step_hop p a d (down e) n = omega (arith, hop_down p d (omega arith))

-- What can be nearer d is not at d.
pub nearer_off : (p a d : ℕ) → gap a d + 1 ≡ gap p d → p ≢ d
nearer_off p a d n e = omega (arith, gap_none e)

-- A hop towards a place below n, from one, leads to one: so a hop stays on the map.
pub hop_below : (p d n : ℕ) → p < n → d < n → hop_to p d < n
hop_below p d n l m = go (dec_lt p d)
  where
    go : Dec (p < d) → hop_to p d < n
    go (yes k) = omega (arith, hop_up p d k)
    go (no k) = omega (arith, hop_down p d (omega arith))
