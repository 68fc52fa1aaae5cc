-- Words of a row side by side: what the machine computes for the bits one to the east and one to
-- the west, with the bit carried over from the next word; and the words of low bits.
use Rattle.std.specs.Prelude.{◌≡◌, ℕ, ◌+◌, ◌-◌, ◌*◌, ◌/◌, ◌%◌, ◌^◌, ◌<◌, ◌≤◌}
use Rattle.std.proofs.Common.{ap, ◌∙◌, arith, pow_pos}
use Rattle.std.proofs.Math.Decide.{dec_lt}
use Rattle.std.specs.Int.Bits.{bit_or}
use Rattle.bits.specs.Bit.{bit_at, EastOf, WestOf, Mask}
use Rattle.bits.specs.Laws.{bit_or_lem, bit_past, bit_sum}
use Rattle.bits.specs.Shifts.{bit_shr, bit_shl, bit_shl_low}

-- `(v >> 1) | (u << (n - 1))` and `(v << 1) | (u >> (n - 1))`.
abbrev pub east_word : ℕ → ℕ → ℕ → ℕ
east_word n v u = bit_or (v / 2 ^ 1) (u * 2 ^ (n - 1) % 2 ^ n)

abbrev pub west_word : ℕ → ℕ → ℕ → ℕ
west_word n v u = bit_or (v * 2 ^ 1 % 2 ^ n) (u / 2 ^ (n - 1))

pub east_law : (n v u : ℕ) → 2 ≤ n → v < 2 ^ n → EastOf n v u (east_word n v u)
east_law n v u s f = record { inner = inner; carry = omega (arith, bit_or_lem (v / 2 ^ 1) (u * 2 ^ (n - 1) % 2 ^ n) (n - 1), off, first) }
  where
    inner : (i : ℕ) → i + 1 < n → bit_at (east_word n v u) i ≡ bit_at v (i + 1)
    inner i l =
        let e : 1 + i ≡ i + 1 = omega arith in
        let z : bit_at (v / 2 ^ 1) i ≡ bit_at v (i + 1) = bit_shr v 1 i ∙ ap (bit_at v) e in
        omega (arith, bit_or_lem (v / 2 ^ 1) (u * 2 ^ (n - 1) % 2 ^ n) i, bit_shl_low n u (n - 1) i (omega arith) (omega arith))

    off : bit_at (v / 2 ^ 1) (n - 1) ≡ 0
    off = bit_shr v 1 (n - 1) ∙ bit_past v n (1 + (n - 1)) f (omega arith)

    first : bit_at (u * 2 ^ (n - 1) % 2 ^ n) (n - 1) ≡ bit_at u 0
    first = let e : n - 1 ≡ (n - 1) + 0 = omega arith in ap (bit_at (u * 2 ^ (n - 1) % 2 ^ n)) e ∙ bit_shl n u (n - 1) 0 (omega arith)

pub west_law : (n v u : ℕ) → 2 ≤ n → u < 2 ^ n → WestOf n v u (west_word n v u)
west_law n v u s f = record { inner = inner; carry = omega (arith, bit_or_lem (v * 2 ^ 1 % 2 ^ n) (u / 2 ^ (n - 1)) 0, last, bit_shl_low n v 1 0 (omega arith) (omega arith)) }
  where
    inner : (i : ℕ) → i + 1 < n → bit_at (west_word n v u) (i + 1) ≡ bit_at v i
    inner i l =
        let e : i + 1 ≡ 1 + i = omega arith in
        let z : bit_at (v * 2 ^ 1 % 2 ^ n) (i + 1) ≡ bit_at v i = ap (bit_at (v * 2 ^ 1 % 2 ^ n)) e ∙ bit_shl n v 1 i (omega arith) in
        omega (arith, bit_or_lem (v * 2 ^ 1 % 2 ^ n) (u / 2 ^ (n - 1)) (i + 1), bit_shr u (n - 1) (i + 1), bit_past u n ((n - 1) + (i + 1)) f (omega arith))

    last : bit_at (u / 2 ^ (n - 1)) 0 ≡ bit_at u (n - 1)
    last = let e : (n - 1) + 0 ≡ n - 1 = omega arith in bit_shr u (n - 1) 0 ∙ ap (bit_at u) e

-- The low k bits: all ones, shifted.
pub mask_law : (n k : ℕ) → k ≤ n → Mask k ((2 ^ n - 1) / 2 ^ (n - k))
mask_law n k l = record { has = has; only = λ i e. only i e (dec_lt i k) }
  where
    has : (i : ℕ) → i < k → bit_at ((2 ^ n - 1) / 2 ^ (n - k)) i ≡ 1
    has i m =
        bit_shr (2 ^ n - 1) (n - k) i
        ∙ omega (arith, bit_sum n (2 ^ n - 1) 0 ((n - k) + i) (omega arith) (omega arith), bit_past 0 0 ((n - k) + i) (omega arith) (omega arith))

    only : (i : ℕ) → bit_at ((2 ^ n - 1) / 2 ^ (n - k)) i ≡ 1 → Dec (i < k) → i < k
    only i e (yes m) = m
    only i e (no m) =
        absurd (omega (arith, bit_shr (2 ^ n - 1) (n - k) i, bit_past (2 ^ n - 1) n ((n - k) + i) (omega (arith, pow_pos n)) (omega arith)))
