-- What and, or, xor and not do to the bits, and that words with the same bits are equal. Each law
-- is linear in the bits, so that omega reads it.
use Rattle.std.specs.Prelude.{◌≡◌, ℕ, zero, suc, ◌+◌, ◌-◌, ◌/◌, ◌%◌, ◌^◌, ◌<◌, ◌≤◌, min, max}
use Rattle.std.proofs.Common.{sym, ap, ◌∙◌, arith, pow-suc, lt_of_lt_of_le, pow_pos, pow_mono, shr-shr}
use Rattle.std.proofs.Math.Nat.{zero-min, zero-max, div-eq_of_lt}
use Rattle.std.proofs.Math.Arith.{digits_mod, lt-one}
use Rattle.std.specs.Int.Bits.{bit_and, bit_or, bit_xor, and_step, or_step, or_add_and, xor_add_and, xor_self, and_lt}
use Rattle.std.proofs.lemmas.Nat.{and_shr, or_shr, or_comm, and_le_l, and_le_r}
use Rattle.bits.specs.Bit.{bit_at, Both, Either}

pub bit_le : (v i : ℕ) → bit_at v i ≤ 1
unfolding bit_at
bit_le v i = omega arith

-- `a & b` and `a | b`: the less and the greater of two bits.
min_both : (a b : ℕ) → a ≤ 1 → b ≤ 1 → Both a b (min a b)
min_both zero b p q = rw (zero-min b) (record { left = omega arith; right = omega arith; both = omega arith })
min_both (suc zero) zero p q = record { left = omega arith; right = omega arith; both = omega arith }
min_both (suc zero) (suc zero) p q = record { left = omega arith; right = omega arith; both = omega arith }
min_both (suc zero) (suc (suc b)) p q = absurd (omega arith)
min_both (suc (suc a)) b p q = absurd (omega arith)

max_either : (a b : ℕ) → a ≤ 1 → b ≤ 1 → Either a b (max a b)
max_either zero b p q = rw (zero-max b) (record { left = omega arith; right = omega arith; either = omega arith })
max_either (suc zero) zero p q = record { left = omega arith; right = omega arith; either = omega arith }
max_either (suc zero) (suc zero) p q = record { left = omega arith; right = omega arith; either = omega arith }
max_either (suc zero) (suc (suc b)) p q = absurd (omega arith)
max_either (suc (suc a)) b p q = absurd (omega arith)

max_lt : (a b : ℕ) → a ≤ 1 → b ≤ 1 → max a b < 2
max_lt zero b p q = rw (zero-max b) (omega arith)
max_lt (suc zero) zero p q = omega arith
max_lt (suc zero) (suc zero) p q = omega arith
max_lt (suc zero) (suc (suc b)) p q = absurd (omega arith)
max_lt (suc (suc a)) b p q = absurd (omega arith)

pub bit_and_lem : (a b i : ℕ) → Both (bit_at a i) (bit_at b i) (bit_at (bit_and a b) i)
unfolding bit_at
bit_and_lem a b i =
    let m = min_both (a / 2 ^ i % 2) (b / 2 ^ i % 2) (omega arith) (omega arith) in
    let e : bit_and a b / 2 ^ i % 2 ≡ min (a / 2 ^ i % 2) (b / 2 ^ i % 2) =
    ap (λ (x : ℕ). x % 2) (and_shr a b i ∙ and_step (a / 2 ^ i) (b / 2 ^ i)) ∙ digits_mod _ (omega (arith, m.left)) in
    rw e m

pub bit_or_lem : (a b i : ℕ) → Either (bit_at a i) (bit_at b i) (bit_at (bit_or a b) i)
unfolding bit_at
bit_or_lem a b i =
    let m = max_either (a / 2 ^ i % 2) (b / 2 ^ i % 2) (omega arith) (omega arith) in
    let e : bit_or a b / 2 ^ i % 2 ≡ max (a / 2 ^ i % 2) (b / 2 ^ i % 2) =
    ap (λ (x : ℕ). x % 2) (or_shr a b i ∙ or_step (a / 2 ^ i) (b / 2 ^ i))
    ∙ digits_mod _ (max_lt (a / 2 ^ i % 2) (b / 2 ^ i % 2) (omega arith) (omega arith)) in
    rw e m

-- No bit is set past a word's end, and none in the word 0.
pub bit_past : (v n i : ℕ) → v < 2 ^ n → n ≤ i → bit_at v i ≡ 0
unfolding bit_at
bit_past v n i f l = ap (λ (x : ℕ). x % 2) (div-eq_of_lt (lt_of_lt_of_le f (pow_mono l)))

pub zero_bit : (v i : ℕ) → v ≡ 0 → bit_at v i ≡ 0
zero_bit v i e = ap (λ (x : ℕ). bit_at x i) e ∙ bit_past 0 0 i (omega arith) (omega arith)

-- `!v`: of two words that sum to ones, each bit is set in one of the two.
pub bit_sum : (n a b i : ℕ) → a + b ≡ 2 ^ n - 1 → i < n → bit_at a i + bit_at b i ≡ 1
unfolding bit_at
bit_sum zero a b i e l = absurd (omega arith)
bit_sum (suc n) a b zero e l = omega (arith, pow-suc 2 n, pow_pos n)
bit_sum (suc n) a b (suc i) e l =
    let ih = bit_sum n (a / 2) (b / 2) i (omega (arith, pow-suc 2 n, pow_pos n)) (omega arith) in
    let p : a / 2 / 2 ^ i ≡ a / 2 ^ suc i = shr-shr a 1 i ∙ ap (λ (x : ℕ). a / 2 ^ x) (omega arith) in
    let q : b / 2 / 2 ^ i ≡ b / 2 ^ suc i = shr-shr b 1 i ∙ ap (λ (x : ℕ). b / 2 ^ x) (omega arith) in
    rw (← p, ← q) ih

pub bit_not : (n v i : ℕ) → v < 2 ^ n → i < n → bit_at v i + bit_at ((2 ^ n - 1) - v) i ≡ 1
bit_not n v i f l = bit_sum n v ((2 ^ n - 1) - v) i (omega arith) l

-- `a & !b`.
abbrev pub without : ℕ → ℕ → ℕ → ℕ
without n a b = bit_and a ((2 ^ n - 1) - b)

pub bit_without : (n a b i : ℕ) → b < 2 ^ n → i < n → Both (bit_at a i) (1 - bit_at b i) (bit_at (without n a b) i)
bit_without n a b i f l =
    let e : bit_at ((2 ^ n - 1) - b) i ≡ 1 - bit_at b i = omega (arith, bit_not n b i f l) in
    rw e at (bit_and_lem a ((2 ^ n - 1) - b) i)

pub without_lt : (n a b : ℕ) → a < 2 ^ n → without n a b < 2 ^ n
without_lt n a b f = and_lt n a ((2 ^ n - 1) - b) f (omega (arith, pow_pos n))

-- Words with the same bits are equal.
pub bit_ext : (n a b : ℕ) → a < 2 ^ n → b < 2 ^ n → ((i : ℕ) → i < n → bit_at a i ≡ bit_at b i) → a ≡ b
unfolding bit_at
bit_ext zero a b f g h = lt-one f ∙ sym (lt-one g)
bit_ext (suc n) a b f g h =
    let t : a / 2 ≡ b / 2 = bit_ext n (a / 2) (b / 2) (omega (arith, pow-suc 2 n)) (omega (arith, pow-suc 2 n)) (λ i l.
    ap (λ (x : ℕ). x % 2) (shr-shr a 1 i) ∙ ap (λ (x : ℕ). a / 2 ^ x % 2) (omega arith) ∙ h (suc i) (omega arith)
    ∙ ap (λ (x : ℕ). b / 2 ^ x % 2) (omega arith) ∙ sym (ap (λ (x : ℕ). x % 2) (shr-shr b 1 i))) in
    omega (arith, h zero (omega arith))

-- Words as numbers: `|` only adds, and is 0 only of two zeros; `^` is 0 exactly of equal words.
pub le_or : (a b : ℕ) → a ≤ bit_or a b
le_or a b = omega (arith, or_add_and a b, and_le_r a b)

pub or_zero : (a b : ℕ) → bit_or a b ≡ 0 → (a ≡ 0) × (b ≡ 0)
or_zero a b e = (omega (arith, le_or a b), omega (arith, le_or b a, or_comm a b))

pub xor_same : (a b : ℕ) → bit_xor a b ≡ 0 → a ≡ b
xor_same a b e = omega (arith, xor_add_and a b, and_le_l a b, and_le_r a b)

pub same_xor : (a b : ℕ) → a ≡ b → bit_xor a b ≡ 0
same_xor a b e = ap (λ (x : ℕ). bit_xor x b) e ∙ xor_self b
