-- What shifts do to the bits of a word of n bits, and a word with one bit set.
use Rattle.std.specs.Prelude.{◌≡◌, refl, ℕ, zero, suc, ◌+◌, ◌-◌, ◌*◌, ◌/◌, ◌%◌, ◌^◌, ◌<◌, ◌≤◌}
use Rattle.std.proofs.Common.{sym, ap, ◌∙◌, arith, mul_assoc, mod-lt, pow_pos, pow-add, shr-shr}
use Rattle.std.proofs.Math.Decide.{dec_lt}
use Rattle.std.proofs.lemmas.Nat.{shl-shr, and_mask}
use Rattle.std.proofs.Math.Pow.{field, mod-mod-pow}
use Rattle.std.specs.Int.Bits.{bit_and, bit_or, shifted_even}
use Rattle.bits.specs.Bit.{bit_at}
use Rattle.bits.specs.Laws.{bit_or_lem, bit_past}

-- `v >> k`.
pub bit_shr : (v k i : ℕ) → bit_at (v / 2 ^ k) i ≡ bit_at v (k + i)
unfolding bit_at
bit_shr v k i = ap (λ (x : ℕ). x % 2) (shr-shr v k i)

-- The low n bits of a number are the number's.
pub bit_low : (v n i : ℕ) → i < n → bit_at (v % 2 ^ n) i ≡ bit_at v i
unfolding bit_at
bit_low v n i l =
    let j : ℕ = n - (i + 1) in
    let e : n ≡ (j + 1) + i = omega arith in
    ap (λ (x : ℕ). v % 2 ^ x / 2 ^ i % 2) e ∙ ap (λ (x : ℕ). x % 2) (field v (j + 1) i) ∙ mod-mod-pow (v / 2 ^ i) j 1

-- `v << k`: bit i comes to be bit k + i, and below k no bit is set.
pub bit_shl : (n v k i : ℕ) → k + i < n → bit_at (v * 2 ^ k % 2 ^ n) (k + i) ≡ bit_at v i
unfolding bit_at
bit_shl n v k i l =
    bit_low (v * 2 ^ k) n (k + i) l
    ∙ ap (λ (x : ℕ). x % 2) (sym (shr-shr (v * 2 ^ k) k i) ∙ ap (λ (x : ℕ). x / 2 ^ i) (shl-shr v k))

pub bit_shl_low : (n v k i : ℕ) → k < n → i < k → bit_at (v * 2 ^ k % 2 ^ n) i ≡ 0
unfolding bit_at
bit_shl_low n v k i l m =
    let j : ℕ = k - (i + 1) in
    let e : k ≡ suc j + i = omega arith in
    bit_low (v * 2 ^ k) n i (omega arith)
    ∙ ap (λ (x : ℕ). v * 2 ^ x / 2 ^ i % 2) e
    ∙ ap (λ (x : ℕ). x / 2 ^ i % 2) (ap (λ (x : ℕ). v * x) (pow-add 2 (suc j) i) ∙ sym (mul_assoc v (2 ^ suc j) (2 ^ i)))
    ∙ ap (λ (x : ℕ). x % 2) (shl-shr (v * 2 ^ suc j) i) ∙ shifted_even v j

pub bit_shl_at : (n v k i : ℕ) → k ≤ i → i < n → bit_at (v * 2 ^ k % 2 ^ n) i ≡ bit_at v (i - k)
bit_shl_at n v k i l m = let f : i ≡ k + (i - k) = omega arith in ap (bit_at (v * 2 ^ k % 2 ^ n)) f ∙ bit_shl n v k (i - k) (omega arith)

-- A set bit of `v << k` was a set bit of v.
pub shl_set : (n v k i : ℕ) → k < n → bit_at (v * 2 ^ k % 2 ^ n) i ≡ 1 → (k ≤ i) × (bit_at v (i - k) ≡ 1)
shl_set n v k i l e = go (dec_lt i k) (dec_lt i n)
  where
    go : Dec (i < k) → Dec (i < n) → (k ≤ i) × (bit_at v (i - k) ≡ 1)
    go (yes p) q = absurd (omega (arith, bit_shl_low n v k i l p))
    go (no p) (yes q) = (omega arith, sym (bit_shl_at n v k i (omega arith) q) ∙ e)
    go (no p) (no q) = absurd (omega (arith, bit_past (v * 2 ^ k % 2 ^ n) n i (mod-lt (v * 2 ^ k) (pow_pos n)) (omega arith)))

-- `(v >> i) & 1`, and eight bits of a word.
pub low_bit : (v i : ℕ) → bit_and (v / 2 ^ i) 1 ≡ bit_at v i
unfolding bit_at
low_bit v i = and_mask (v / 2 ^ i) 1

pub part_bit : (v x j : ℕ) → j < 8 → bit_at (bit_and (v / 2 ^ x) 255) j ≡ bit_at v (x + j)
part_bit v x j l = ap (λ (k : ℕ). bit_at k j) (and_mask (v / 2 ^ x) 8) ∙ bit_low (v / 2 ^ x) 8 j l ∙ bit_shr v x j

-- A bit as a word has itself for bit 0.
pub bit_zero : (b : ℕ) → b ≤ 1 → bit_at b 0 ≡ b
unfolding bit_at
bit_zero zero l = refl
bit_zero (suc zero) l = refl
bit_zero (suc (suc b)) l = absurd (omega arith)

-- `v | (b << x)`, where bit x of v was not set: that bit is b, and the others stay.
abbrev pub put_bit : ℕ → ℕ → ℕ → ℕ → ℕ
put_bit n v b x = bit_or v (b * 2 ^ x % 2 ^ n)

module _ (n v b x : ℕ) (l : x < n) (p : b ≤ 1) where
  pub put_here : bit_at v x ≡ 0 → bit_at (put_bit n v b x) x ≡ b
  put_here e =
      let z : bit_at (b * 2 ^ x % 2 ^ n) x ≡ bit_at b 0 = let f : x ≡ x + 0 = omega arith in ap (bit_at (b * 2 ^ x % 2 ^ n)) f ∙ bit_shl n b x 0 (omega arith) in
      omega (arith, bit_or_lem v (b * 2 ^ x % 2 ^ n) x, bit_zero b p)

  pub put_other : (i : ℕ) → i < n → (i ≡ x → ⊥) → bit_at (put_bit n v b x) i ≡ bit_at v i
  put_other i m k = go (dec_lt i x)
    where
      go : Dec (i < x) → bit_at (put_bit n v b x) i ≡ bit_at v i
      go (yes q) = omega (arith, bit_or_lem v (b * 2 ^ x % 2 ^ n) i, bit_shl_low n b x i l q)
      go (no q) =
          omega (arith, bit_or_lem v (b * 2 ^ x % 2 ^ n) i, bit_shl_at n b x i (omega arith) m, bit_past b 1 (i - x) (omega arith) (omega arith))
