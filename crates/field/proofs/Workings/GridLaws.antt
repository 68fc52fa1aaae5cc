-- Small laws of distances, neighbours, crossing numbers and hops, with those of one axis passed on.
-- A hop changes one offset by one, so it changes a distance by one.
use Rattle.std.specs.Prelude.{◌≡◌, refl, ◌⊎◌, ℕ, suc, ◌+◌, ◌*◌, ◌<◌, ◌≤◌}
use Rattle.std.proofs.Common.{sym, ap, inl, inr, arith, mul-le-mul_right}
use Rattle.std.proofs.Math.Decide.{ℕ_discrete}
use Rattle.field.specs.Map.{On, number, Near, east, west, north, south, Apart, gap, dist, side, no_distance}
use Rattle.field.specs.Distances.{Way, eastward, southward, westward, northward, Along}
use Rattle.field.specs.Workings.Looking.{hop_to}
pub use Rattle.field.proofs.Workings.AxisLaws.{Order, less, same, more, order, gap_none, gap_zero, gap_turned, gap_detour, OneApart, nearer, farther, apart_turned}
use Rattle.field.proofs.Workings.AxisLaws.{Step, up, down, gap_step, step_gap, hop_step, hop_nearer, step_hop, nearer_off}

-- Distances.
pub dist_none : {x y a b : ℕ} → x ≡ a → y ≡ b → dist x y a b ≡ 0
dist_none p q = omega (arith, gap_none p, gap_none q)

pub dist_zero : (x y a b : ℕ) → dist x y a b ≡ 0 → (x ≡ a) × (y ≡ b)
dist_zero x y a b e = (gap_zero x a (omega arith), gap_zero y b (omega arith))

-- Crossings some hops apart are two.
pub dist_apart : (x y a b : ℕ) → 0 < dist x y a b → Apart x y a b
dist_apart x y a b l e = omega (arith, dist_none e.0 e.1)

pub dist_turned : (x y a b : ℕ) → dist x y a b ≡ dist a b x y
dist_turned x y a b = omega (arith, gap_turned x a, gap_turned y b)

pub dist_detour : (x y a b c d : ℕ) → dist x y c d ≤ dist x y a b + dist a b c d
dist_detour x y a b c d = omega (arith, gap_detour x a c, gap_detour y b d)

-- Neighbours. To be a neighbour goes both ways, and no crossing is its own.
pub near_turned : {x y a b : ℕ} → Near x y a b → Near a b x y
near_turned (east p q) = west (sym p) (sym q)
near_turned (west p q) = east (sym p) (sym q)
near_turned (north p q) = south (sym p) (sym q)
near_turned (south p q) = north (sym p) (sym q)

pub near_apart : {x y a b : ℕ} → Near x y a b → a ≡ x → b ≡ y → ⊥
near_apart (east p q) e f = omega arith
near_apart (west p q) e f = omega arith
near_apart (north p q) e f = omega arith
near_apart (south p q) e f = omega arith

-- The next place of a row, and of a column, is a neighbour; and a neighbour is one or the other.
pub step_row : {x a : ℕ} → Step x a → (y : ℕ) → Near x y a y
step_row (up e) y = east e refl
step_row (down e) y = west e refl

pub step_column : {y b : ℕ} → Step y b → (x : ℕ) → Near x y x b
step_column (up e) x = north refl e
step_column (down e) x = south refl e

pub near_step : {x y a b : ℕ} → Near x y a b → (Step x a × (b ≡ y)) ⊎ ((a ≡ x) × Step y b)
near_step (east p q) = inl (up p, q)
near_step (west p q) = inl (down p, q)
near_step (north p q) = inr (p, up q)
near_step (south p q) = inr (p, down q)

-- Crossings one hop apart are neighbours.
pub dist_near : (x y a b : ℕ) → dist x y a b ≡ 1 → Near x y a b
dist_near x y a b e = go (ℕ_discrete (gap x a) 0)
  where
    go : Dec (gap x a ≡ 0) → Near x y a b
    go (yes z) = rw (← gap_zero x a z) (step_column (gap_step y b (omega arith)) x)
    go (no n) = rw (← gap_zero y b (omega arith)) (step_row (gap_step x a (omega arith)) y)

-- A hop changes the distance by one.
apart_left : {m n k l : ℕ} → OneApart m n → k ≡ l → OneApart (m + k) (n + l)
apart_left (nearer e) f = nearer (omega arith)
apart_left (farther e) f = farther (omega arith)

apart_right : {m n k l : ℕ} → k ≡ l → OneApart m n → OneApart (k + m) (l + n)
apart_right f (nearer e) = nearer (omega arith)
apart_right f (farther e) = farther (omega arith)

pub hop_dist : {x y a b : ℕ} (dx dy : ℕ) → Near x y a b → OneApart (dist a b dx dy) (dist x y dx dy)
hop_dist {x} {y} {a} {b} dx dy n = go (near_step n)
  where
    go : (Step x a × (b ≡ y)) ⊎ ((a ≡ x) × Step y b) → OneApart (dist a b dx dy) (dist x y dx dy)
    go (inl s) = apart_left (step_gap dx s.0) (ap (λ (j : ℕ). gap j dy) s.1)
    go (inr s) = apart_right (ap (λ (i : ℕ). gap i dx) s.0) (step_gap dy s.1)

apart_le : {m n : ℕ} → OneApart m n → (m ≤ n + 1) × (n ≤ m + 1)
apart_le (nearer e) = omega arith
apart_le (farther e) = omega arith

pub hop_le : {x y a b : ℕ} (dx dy : ℕ) → Near x y a b → (dist a b dx dy ≤ dist x y dx dy + 1) × (dist x y dx dy ≤ dist a b dx dy + 1)
hop_le dx dy n = apart_le (hop_dist dx dy n)

-- A crossing further north has a higher number, and on the map a number has one crossing.
pub number_north : (w x y a b : ℕ) → x < w → y < b → number w x y < number w a b
number_north w x y a b l m = omega (arith, mul-le-mul_right {m = suc y} {n = b} w m)

pub number_one : {w h x y a b : ℕ} → On w h x y → On w h a b → number w a b ≡ number w x y → (a ≡ x) × (b ≡ y)
number_one {w} {h} {x} {y} {a} {b} o p e = go (order b y)
  where
    go : Order b y → (a ≡ x) × (b ≡ y)
    go (less l) = absurd (omega (arith, number_north w a b x y p.in_x l))
    go (same l) = (omega (arith, ap (λ (k : ℕ). k * w) l), l)
    go (more l) = absurd (omega (arith, number_north w x y a b o.in_x l))

-- Nothing on the map is as far from a crossing as a number that neither side passes.
pub along_short : (t : Way) (n w h k x y a b : ℕ) → w ≤ n → h ≤ n → On w h x y → On w h a b → Along t k x y a b → k < n
along_short eastward n w h k x y a b p q o m l = omega arith
along_short southward n w h k x y a b p q o m l = omega arith
along_short westward n w h k x y a b p q o m l = omega arith
along_short northward n w h k x y a b p q o m l = omega arith

-- "255 is no distance: the largest is 63." With Req 07 the mark is 65,535 and the largest is 255.
pub no_distance_far : side ≤ no_distance
unfolding side no_distance
no_distance_far = omega arith

-- (a, b) is one hop from (x, y) towards (dx, dy): one of the two crossings that can be.
pub data Toward (dx dy x y a b : ℕ) : Type 0 where
  along_row : ¬ (x ≡ dx) → a ≡ hop_to x dx → b ≡ y → Toward dx dy x y a b
  along_column : ¬ (y ≡ dy) → a ≡ x → b ≡ hop_to y dy → Toward dx dy x y a b

-- A neighbour one hop nearer is one of the two, and each of the two is such a neighbour.
pub nearer_toward : {x y a b : ℕ} (dx dy : ℕ) → Near x y a b → dist a b dx dy + 1 ≡ dist x y dx dy → Toward dx dy x y a b
nearer_toward {x} {y} {a} {b} dx dy n e = go (near_step n)
  where
    go : (Step x a × (b ≡ y)) ⊎ ((a ≡ x) × Step y b) → Toward dx dy x y a b
    go (inl s) =
        let f : gap a dx + 1 ≡ gap x dx = omega (arith, ap (λ (j : ℕ). gap j dy) s.1) in
        along_row (nearer_off x a dx f) (step_hop x a dx s.0 f) s.1
    go (inr s) =
        let f : gap b dy + 1 ≡ gap y dy = omega (arith, ap (λ (i : ℕ). gap i dx) s.0) in
        along_column (nearer_off y b dy f) s.0 (step_hop y b dy s.1 f)

pub toward_near : {dx dy x y a b : ℕ} → Toward dx dy x y a b → Near x y a b
toward_near {dx} {dy} {x} {y} (along_row n p q) = rw (p, q) (step_row (hop_step x dx n) y)
toward_near {dx} {dy} {x} {y} (along_column n p q) = rw (p, q) (step_column (hop_step y dy n) x)

pub toward_nearer : {dx dy x y a b : ℕ} → Toward dx dy x y a b → dist a b dx dy + 1 ≡ dist x y dx dy
toward_nearer {dx} {dy} {x} {y} {a} {b} (along_row n p q) =
    omega (arith, hop_nearer x dx n, ap (λ (i : ℕ). gap i dx) p, ap (λ (i : ℕ). gap i dy) q)
toward_nearer {dx} {dy} {x} {y} {a} {b} (along_column n p q) =
    omega (arith, hop_nearer y dy n, ap (λ (i : ℕ). gap i dx) p, ap (λ (i : ℕ). gap i dy) q)

-- The hop that keeps the row, and the one that keeps the column.
pub toward_row : {dx dy x y a b : ℕ} → Toward dx dy x y a b → b ≡ y → ¬ (x ≡ dx) × (a ≡ hop_to x dx)
toward_row {dx} (along_row n p q) e = (n, p)
toward_row {dx} (along_column n p q) e = absurd (near_apart (toward_near {dx = dx} (along_column n p q)) p e)

pub toward_column : {dx dy x y a b : ℕ} → Toward dx dy x y a b → a ≡ x → ¬ (y ≡ dy) × (b ≡ hop_to y dy)
toward_column {dy} (along_row n p q) e = absurd (near_apart (toward_near {dy = dy} (along_row n p q)) e q)
toward_column {dy} (along_column n p q) e = (n, q)
