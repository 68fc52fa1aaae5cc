-- Counting: the number of set bits is the sum of the bits, in a word and in a row of words.
use Rattle.std.specs.Prelude.{◌≡◌, refl, ℕ, zero, suc, ◌+◌, ◌*◌, ◌/◌, ◌%◌, ◌^◌, ◌<◌, ◌≤◌}
use Rattle.std.proofs.Common.{sym, ap, ap₂, ◌∙◌, arith, mod-lt, mod-eq_of_lt, add-one, pow_pos, shr_lt}
use Rattle.std.proofs.Math.Decide.{ℕ_discrete}
use Rattle.std.proofs.Math.Arith.{lt-one}
use Rattle.std.proofs.Math.Pow.{split}
use Rattle.std.specs.Int.Count.{ones}
use Rattle.std.proofs.lemmas.Nat.{ones_cat}
use Rattle.field.specs.Labels.{sum_to}
use Rattle.field.proofs.Workings.Counting.{sum_same}
use Rattle.field.proofs.Workings.MarkTally.{sum_append}
use Rattle.bits.specs.Bit.{bit_at}
use Rattle.bits.specs.Shifts.{bit_low}

ones_small : (v : ℕ) → v < 2 → ones v ≡ v
unfolding ones
ones_small zero l = refl
ones_small (suc zero) l = refl
ones_small (suc (suc v)) l = absurd (omega arith)

pub ones_sum : (n v : ℕ) → v < 2 ^ n → ones v ≡ sum_to n (bit_at v)
unfolding sum_to ones bit_at
ones_sum zero v l = ap ones (lt-one l)
ones_sum (suc n) v l =
    let h : v / 2 ^ n < 2 = shr_lt 1 n (subst_lt (omega arith)) in
    ap ones (sym (split v n)) ∙ ones_cat n (v / 2 ^ n) (v % 2 ^ n) (mod-lt v (pow_pos n))
    ∙ omega (arith, ones_small (v / 2 ^ n) h, ones_sum n (v % 2 ^ n) (mod-lt v (pow_pos n)), sum_same n (bit_at (v % 2 ^ n)) (bit_at v) (λ k m. bit_low v n k m), mod-eq_of_lt h)
  where
    subst_lt : 1 + n ≡ suc n → v < 2 ^ (1 + n)
    subst_lt e = rw e l

-- Sums: of none, of one more, where all past w is 0, one after the other, and in blocks of n.
pub sum_none : (f : ℕ → ℕ) → sum_to 0 f ≡ 0
unfolding sum_to
sum_none f = refl

pub sum_next : (n : ℕ) (f : ℕ → ℕ) → sum_to (n + 1) f ≡ sum_to n f + f n
unfolding sum_to
sum_next n f = rw add-one

pub sum_cut : (w n : ℕ) (f : ℕ → ℕ) → w ≤ n → ((k : ℕ) → w ≤ k → k < n → f k ≡ 0) → sum_to n f ≡ sum_to w f
unfolding sum_to
sum_cut w zero f l z = let e : zero ≡ w = omega arith in ap (λ (k : ℕ). sum_to k f) e
sum_cut w (suc n) f l z = go (ℕ_discrete w (suc n)) (λ m. sum_cut w n f m (λ k p q. z k p (omega arith)))
  where
    go : Dec (w ≡ suc n) → (w ≤ n → sum_to n f ≡ sum_to w f) → sum_to (suc n) f ≡ sum_to w f
    go (yes e) g = ap (λ (k : ℕ). sum_to k f) (sym e)
    go (no m) g = omega (arith, g (omega arith), z n (omega arith) (omega arith))

sum_blocks : (n : ℕ) (f : ℕ → ℕ) → sum_to n (λ j. sum_to 64 (λ k. f (64 * j + k))) ≡ sum_to (64 * n) f
unfolding sum_to
sum_blocks zero f = let e : zero ≡ 64 * zero = omega arith in ap (λ (k : ℕ). sum_to k f) e
sum_blocks (suc n) f =
    let e : 64 * n + 64 ≡ 64 * suc n = omega arith in
    ap (λ (v : ℕ). v + sum_to 64 (λ k. f (64 * n + k))) (sum_blocks n f) ∙ sym (sum_append (64 * n) 64 f) ∙ ap (λ (k : ℕ). sum_to k f) e

-- A row of w bits in words of 64: the sum of the words' numbers of set bits is the sum of the row's
-- bits, where no bit past the row is set.
pub ones_row : (w : ℕ) (g : ℕ → ℕ) → ((j : ℕ) → g j < 2 ^ 64) → ((j k : ℕ) → j < (w + 63) / 64 → k < 64 → w ≤ 64 * j + k → bit_at (g j) k ≡ 0)
    → sum_to ((w + 63) / 64) (λ j. ones (g j)) ≡ sum_to w (λ x. bit_at (g (x / 64)) (x % 64))
ones_row w g f z =
    sum_same ((w + 63) / 64) (λ j. ones (g j)) (λ j. sum_to 64 (λ k. b (64 * j + k))) (λ j l. word j)
    ∙ sum_blocks ((w + 63) / 64) b
    ∙ sum_cut w (64 * ((w + 63) / 64)) b (omega arith) (λ k l m. z (k / 64) (k % 64) (omega arith) (omega arith) (omega arith))
  where
    b : ℕ → ℕ
    b x = bit_at (g (x / 64)) (x % 64)

    word : (j : ℕ) → ones (g j) ≡ sum_to 64 (λ k. b (64 * j + k))
    word j =
        ones_sum 64 (g j) (f j)
        ∙ sum_same 64 (bit_at (g j)) (λ k. b (64 * j + k)) (λ k l.
        let p : j ≡ (64 * j + k) / 64 = omega arith in
        let q : k ≡ (64 * j + k) % 64 = omega arith in
        ap₂ (λ (m n : ℕ). bit_at (g m) n) p q)
