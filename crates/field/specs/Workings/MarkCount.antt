-- Working: how many marks a sheet has. A mark more is one more: so where no mark of s goes missing
-- in t, t has as many marks only if it has the same ones. By this it is told whether a sweep has
-- added anything.
use Rattle.std.specs.Prelude.{◌≡◌, List, [], ◌∷◌, ℕ, zero, suc, ◌+◌, ◌<◌, ◌≤◌, ltb, length, get_or, set, take}
use Rattle.std.proofs.Common.{arith, lt-ltb, le-ltb}
use Rattle.std.proofs.Math.Decide.{dec_lt}
use Rattle.field.specs.Workings.Tests.{bit, bit_le}

-- How many marks.
unfoldable pub marks : List ℕ → ℕ
marks [] = 0
marks (v ∷ vs) = bit (ltb 0 v) + marks vs

bit_one : (v : ℕ) → 0 < v → bit (ltb 0 v) ≡ 1
bit_one v l = simp (lt-ltb 0 v l)

bit_none : (v : ℕ) → v ≡ 0 → bit (ltb 0 v) ≡ 0
bit_none v e = simp (le-ltb 0 v (omega arith))

bit_mono : (u v : ℕ) → (0 < u → 0 < v) → bit (ltb 0 u) ≤ bit (ltb 0 v)
bit_mono u v f = go (dec_lt 0 u)
  where
    go : Dec (0 < u) → bit (ltb 0 u) ≤ bit (ltb 0 v)
    go (yes l) = omega (arith, bit_one u l, bit_one v (f l))
    go (no l) = omega (arith, bit_none u (omega arith))

pub marks_le_length : (s : List ℕ) → marks s ≤ length s
unfolding marks
marks_le_length [] = omega arith
marks_le_length (v ∷ vs) = omega (arith, bit_le (ltb 0 v), marks_le_length vs)

-- The marks of s are marks of t.
abbrev pub Among : List ℕ → List ℕ → Type 0
Among s t = (i : ℕ) → i < length s → 0 < get_or s i 0 → 0 < get_or t i 0

pub marks_mono : (s t : List ℕ) → length s ≡ length t → Among s t → marks s ≤ marks t
unfolding marks
marks_mono [] t e f = omega arith
marks_mono (u ∷ us) [] e f = absurd (omega arith)
marks_mono (u ∷ us) (v ∷ vs) e f =
    omega (arith, bit_mono u v (f 0 (omega arith)), marks_mono us vs (omega arith) (λ i l p. f (suc i) (omega arith) p))

-- Where the marks of s are marks of t, and t has no more of them, those of t are marks of s.
pub marks_same : (s t : List ℕ) → length s ≡ length t → Among s t → marks s ≡ marks t → (i : ℕ) → i < length s → 0 < get_or t i 0 → 0 < get_or s i 0
unfolding marks
marks_same [] t e f m i l p = absurd (omega arith)
marks_same (u ∷ us) [] e f m i l p = absurd (omega arith)
marks_same (u ∷ us) (v ∷ vs) e f m zero l p = go (dec_lt 0 u)
  where
    go : Dec (0 < u) → 0 < u
    go (yes k) = k
    go (no k) = absurd (omega (arith, bit_none u (omega arith), bit_one v p, marks_mono us vs (omega arith) (λ i l p. f (suc i) (omega arith) p)))
marks_same (u ∷ us) (v ∷ vs) e f m (suc i) l p =
    marks_same us vs (omega arith) (λ i l p. f (suc i) (omega arith) p)
    (omega (arith, bit_mono u v (f 0 (omega arith)), marks_mono us vs (omega arith) (λ i l p. f (suc i) (omega arith) p))) i (omega arith) p

-- One mark more.
pub marks_set : (s : List ℕ) (i v : ℕ) → i < length s → get_or s i 0 ≡ 0 → 0 < v → marks (set s i v) ≡ marks s + 1
unfolding marks
marks_set [] i v l e p = absurd (omega arith)
marks_set (u ∷ us) zero v l e p = omega (arith, bit_none u e, bit_one v p)
marks_set (u ∷ us) (suc i) v l e p = omega (arith, marks_set us i v (omega arith) e p)

-- The marks of the first i bytes, and of one more.
pub marks_take : (s : List ℕ) (i : ℕ) → i < length s → marks (take (suc i) s) ≡ marks (take i s) + bit (ltb 0 (get_or s i 0))
unfolding marks
marks_take [] i l = absurd (omega arith)
marks_take (u ∷ us) zero l = omega arith
marks_take (u ∷ us) (suc i) l = omega (arith, marks_take us i (omega arith))
