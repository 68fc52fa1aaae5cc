-- Places on one line, a row or a column: going from one to another step by step, and how far a run
-- of a set reaches. Each is an induction on numbers.
use Rattle.std.specs.Prelude.{◌≡◌, ℕ, zero, suc, ◌+◌, ◌-◌, ◌<◌, ◌≤◌}
use Rattle.std.proofs.Common.{subst, arith}
use Rattle.std.proofs.Math.Decide.{dec_le}
use Rattle.field.proofs.Workings.AxisLaws.{Step, up, down}
use Rattle.field.specs.Geometry.Shapes.{Between}

-- What holds at b and is handed on from each place to the next, between b and t, holds at t.
module _ (Q : ℕ → Type 0) where
  walk_up : (b k : ℕ) → Q b → ((u v : ℕ) → Step u v → b ≤ v → v ≤ b + k → Q u → Q v) → Q (b + k)
  walk_up b zero q f = subst Q (omega arith) q
  walk_up b (suc k) q f =
      f (b + k) (b + suc k) (up (omega arith)) (omega arith) (omega arith) (walk_up b k q (λ u v s l m. f u v s l (omega arith)))

  walk_down : (t k : ℕ) → Q (t + k) → ((u v : ℕ) → Step u v → t ≤ v → v ≤ t + k → Q u → Q v) → Q t
  walk_down t zero q f = subst Q (omega arith) q
  walk_down t (suc k) q f =
      walk_down t k (f (t + suc k) (t + k) (down (omega arith)) (omega arith) (omega arith) q) (λ u v s l m. f u v s l (omega arith))

  pub walk : (b t : ℕ) → Q b → ((u v : ℕ) → Step u v → Between b v t → Q u → Q v) → Q t
  walk b t q f = go (dec_le b t)
    where
      go : Dec (b ≤ t) → Q t
      go (yes l) = subst Q (omega arith) (walk_up b (t - b) q (λ u v s m n. f u v s (omega arith)))
      go (no l) = walk_down t (b - t) (subst Q (omega arith) q) (λ u v s m n. f u v s (omega arith))

-- The run of P about x: all places from low to high are in P, and the next ones on both sides are
-- not.
pub record Run (P : ℕ → Type 0) (x : ℕ) : Type 0 where
  pub low : ℕ
  pub high : ℕ
  pub from_low : low ≤ x
  pub to_high : x ≤ high
  pub all : (u : ℕ) → low ≤ u → u ≤ high → P u
  pub ends_low : (u : ℕ) → u + 1 ≡ low → ¬ P u
  pub ends_high : ¬ P (high + 1)

module _ (P : ℕ → Type 0) (dec : (k : ℕ) → Dec (P k)) where
  -- Its two halves, x in both.
  abbrev Low : ℕ → Type 0
  Low x = (low : ℕ) × (low ≤ x) × ((u : ℕ) → low ≤ u → u ≤ x → P u) × ((u : ℕ) → u + 1 ≡ low → ¬ P u)

  abbrev High : ℕ → Type 0
  High x = (high : ℕ) × (x ≤ high) × ((u : ℕ) → x ≤ u → u ≤ high → P u) × ¬ P (high + 1)

  -- From low to x, and on from there to high.
  joined : (low x high : ℕ) → ((u : ℕ) → low ≤ u → u ≤ x → P u) → ((u : ℕ) → x < u → u ≤ high → P u) → (u : ℕ) → low ≤ u → u ≤ high → P u
  joined low x high f g u l m = go (dec_le u x)
    where
      go : Dec (u ≤ x) → P u
      go (yes n) = f u l n
      go (no n) = g u (omega arith) m

  -- One place only.
  alone : (x : ℕ) → P x → (u : ℕ) → x ≤ u → u ≤ x → P u
  alone x p u l m = subst P (omega arith) p

  run_low : (x : ℕ) → P x → Low x
  run_low zero p = (zero, omega arith, alone zero p, λ u e. absurd (omega arith))
  run_low (suc x) p = go (dec x) (run_low x)
    where
      go : Dec (P x) → (P x → Low x) → Low (suc x)
      go (yes q) f = ((f q).0, omega (arith, (f q).1), joined (f q).0 x (suc x) (f q).2 (alone (suc x) p), (f q).3)
      go (no n) f = (suc x, omega arith, alone (suc x) p, λ u e q. n (subst P (omega arith) q))

  -- P ends before n, and k places are left to n.
  run_high : (n k x : ℕ) → ((u : ℕ) → P u → u < n) → x + k ≡ n → P x → High x
  run_high n zero x bound e p = absurd (omega (arith, bound x p))
  run_high n (suc k) x bound e p = go (dec (x + 1)) (run_high n k (x + 1) bound (omega arith))
    where
      go : Dec (P (x + 1)) → (P (x + 1) → High (x + 1)) → High x
      go (yes q) f = ((f q).0, omega (arith, (f q).1), joined x x (f q).0 (alone x p) (λ u l m. (f q).2 u (omega arith) m), (f q).3)
      go (no m) f = (x, omega arith, alone x p, m)

  pub run : (n x : ℕ) → ((u : ℕ) → P u → u < n) → P x → Run P x
  run n x bound p = make (run_low x p) (run_high n (n - x) x bound (omega (arith, bound x p)) p)
    where
      make : Low x → High x → Run P x
      make l h =
          record {
            low = l.0;
            high = h.0;
            from_low = l.1;
            to_high = h.1;
            all = joined l.0 x h.0 l.2 (λ u m. h.2 u (omega arith));
            ends_low = l.3;
            ends_high = h.3;
          }

-- A place that is reached from x without leaving P is in the run.
module _ {P : ℕ → Type 0} {x : ℕ} (r : Run P x) (a : ℕ) (reached : (u : ℕ) → Between x u a → P u) where
  pub run_from : r.low ≤ a
  run_from =
      let n : ¬ (a < r.low) = λ l. r.ends_low (r.low - 1) (omega arith) (reached (r.low - 1) (omega (arith, r.from_low))) in
      omega arith

  pub run_to : a ≤ r.high
  run_to = let n : ¬ (r.high < a) = λ l. r.ends_high (reached (r.high + 1) (omega (arith, r.to_high))) in omega arith
