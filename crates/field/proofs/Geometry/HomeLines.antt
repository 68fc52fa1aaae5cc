-- Home's row and column, where home is assured for a place: every crossing of them that is nearer
-- home than the place's own column or row is open, since home's distance that way is not less; and
-- what assures home on an axis assures it for every place between.
use Rattle.std.specs.Prelude.{◌≡◌, refl, ◌⊎◌, ℕ, ◌+◌, ◌<◌, ◌≤◌}
use Rattle.std.proofs.Common.{sym, subst, inl, inr, arith}
use Rattle.std.proofs.Math.Decide.{ℕ_discrete}
use Rattle.field.specs.Map.{Sides, On, OnMap, no_distance, gap}
use Rattle.field.specs.Labels.{Open}
use Rattle.field.specs.Distances.{Way, eastward, southward, westward, northward, Along, Clear, at_closed, nearest, none}
use Rattle.field.specs.Distances.{Enough, nothing_that_way, at_most, Axis, level, above, below}
use Rattle.field.proofs.Workings.AxisLaws.{gap_turned, gap_above}
use Rattle.field.proofs.Workings.GridLaws.{no_distance_far, along_short}
use Rattle.field.specs.Geometry.Shapes.{Between}
use Rattle.field.proofs.Geometry.Offsets.{gap_between}

-- The distance is n: there is nothing that way, or k hops end before it.
abbrev Short : ℕ → ℕ → Type 0
Short k n = (n ≡ no_distance) ⊎ (k < n)

-- A distance that is enough for an offset is enough for each lesser one, which is short of it. This
-- is all that the way home uses of when a distance is enough: "short of it" is where "at most" is
-- the most that can be asked for.
enough_lesser : {offset n k : ℕ} → Enough offset n → k < offset → Enough k n × Short k n
enough_lesser (nothing_that_way e) l = (nothing_that_way e, inl e)
enough_lesser (at_most m) l = (at_most (omega arith), inr (omega arith))

-- On document 01's maps no two crossings of a line are as far apart as the number that marks no
-- distance, so that it is no distance. On a wider map it could be one.
pub along_length : {w h : ℕ} (t : Way) (n x y a b : ℕ) → Sides w h → On w h x y → On w h a b → Along t n x y a b → n < no_distance
along_length {w} {h} t n x y a b s =
    along_short t no_distance w h n x y a b (omega (arith, s.most_w, no_distance_far)) (omega (arith, s.most_h, no_distance_far))

-- Short of home's distance nothing is closed.
clear_short : {w h : ℕ} {C : ℕ → ℕ → Type 0} {t : Way} {hx hy n : ℕ} → Sides w h → OnMap w h C → Open w h C hx hy → Clear C t hx hy n
    → (k a b : ℕ) → Short k n → Along t k hx hy a b → ¬ C a b
clear_short s on home (at_closed c e) k a b r l = absurd (home.free c)
clear_short {t} {hx} {hy} {n} s on home (nearest a' b' f m c g) k a b (inl e) l =
    absurd (omega (arith, along_length t n hx hy a' b' s home.on (on a' b' c) m))
clear_short s on home (nearest a' b' f m c g) k a b (inr r) l = g k a b r l
clear_short s on home (none f g e) k a b r l = g k a b l

-- One axis, home at m and the place at p.
module _ {D : Way → ℕ → Type 0} {up down : Way} {m p : ℕ} where
  -- Home assured on this axis for p is so for every place between.
  pub axis_between : Axis D up down m p → (v : ℕ) → Between m v p → Axis D up down m v
  axis_between x v b = go x (ℕ_discrete v p) (ℕ_discrete v m)
    where
      go : Axis D up down m p → Dec (v ≡ p) → Dec (v ≡ m) → Axis D up down m v
      go t (yes e) d = subst (Axis D up down m) (sym e) t
      go t (no e) (yes f) = level f
      go (level l) (no e) (no f) = level (omega arith)
      go (above l n d r) (no e) (no f) = above (omega arith) n d (enough_lesser r (gap_between m p v b e)).0
      go (below l n d r) (no e) (no f) = below (omega arith) n d (enough_lesser r (gap_between m p v b e)).0

  -- P tells what is closed on home's line.
  axis_open : (P : ℕ → Type 0)
      → ((n k v : ℕ) → D up n → Short k n → v ≡ m + k → ¬ P v) → ((n k v : ℕ) → D down n → Short k n → v + k ≡ m → ¬ P v)
      → Axis D up down m p → (v : ℕ) → Between m v p → ¬ (v ≡ p) → ¬ P v
  axis_open P f g (level l) v b e = absurd (omega arith)
  axis_open P f g (above l n d r) v b e =
      let k : m ≤ v = omega arith in
      f n (gap m v) v d (enough_lesser r (gap_between m p v b e)).1 (sym (gap_above k))
  axis_open P f g (below l n d r) v b e =
      let k : v ≤ m = omega arith in
      g n (gap m v) v d (enough_lesser r (gap_between m p v b e)).1 (omega (arith, gap_above k, gap_turned m v))

module _ {w h : ℕ} {C : ℕ → ℕ → Type 0} {hx hy : ℕ} (s : Sides w h) (on : OnMap w h C) (home : Open w h C hx hy) where
  -- Of home's row, and of its column, nothing is closed from home on, up to the place's own column,
  -- or row.
  pub row_open : {x : ℕ} → Axis (λ t n. Clear C t hx hy n) eastward westward hx x → (u : ℕ) → Between hx u x → ¬ (u ≡ x) → ¬ C u hy
  row_open =
      axis_open (λ u. C u hy) (λ n k u d r e. clear_short s on home d k u hy r (e, refl)) (λ n k u d r e. clear_short s on home d k u hy r (e, refl))

  pub column_open : {y : ℕ} → Axis (λ t n. Clear C t hx hy n) northward southward hy y → (v : ℕ) → Between hy v y → ¬ (v ≡ y) → ¬ C hx v
  column_open =
      axis_open (C hx) (λ n k v d r e. clear_short s on home d k hx v r (refl, e)) (λ n k v d r e. clear_short s on home d k hx v r (refl, e))
