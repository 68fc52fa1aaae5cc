-- A number by its digits of m bits each, the lowest first: with digits of one bit its bits, with
-- digits of eight its bytes.
use mathlib.Core.Path.{◌≡◌, sym, ap, ◌∙◌}
use Prim.Native.Nat.{ℕ, zero, suc, ◌+◌, ◌*◌, ◌/◌, ◌%◌, ◌^◌, ◌<◌}
use native.Mathlib.Omega.{arith}
use native.Mathlib.Nat.{div-one, mul-zero}
use lib.Arith.{digits_div, digits_mod}
use lib.Pow.{shr-shr}

unfoldable pub digits : ℕ → ℕ → (ℕ → ℕ) → ℕ
digits m zero f = 0
digits m (suc n) f = digits m n (λ k. f (suc k)) * 2 ^ m + f 0

pub digit_at : (m n : ℕ) (f : ℕ → ℕ) → ((k : ℕ) → f k < 2 ^ m) → (j : ℕ) → j < n → digits m n f / 2 ^ (m * j) % 2 ^ m ≡ f j
unfolding digits
digit_at m zero f b j l = absurd (omega arith)
digit_at m (suc n) f b zero l =
    let one : 2 ^ (m * zero) ≡ 1 = ap (λ (k : ℕ). 2 ^ k) (mul-zero m) in
    ap (λ (k : ℕ). digits m (suc n) f / k % 2 ^ m) one ∙ ap (λ (k : ℕ). k % 2 ^ m) (div-one (digits m (suc n) f))
    ∙ digits_mod (digits m n (λ k. f (suc k))) (b 0)
digit_at m (suc n) f b (suc j) l =
    let e : m * suc j ≡ m + m * j = omega arith in
    ap (λ (k : ℕ). digits m (suc n) f / 2 ^ k % 2 ^ m) e
    ∙ ap (λ (k : ℕ). k % 2 ^ m) (sym (shr-shr (digits m (suc n) f) m (m * j)))
    ∙ ap (λ (k : ℕ). k / 2 ^ (m * j) % 2 ^ m) (digits_div (digits m n (λ k. f (suc k))) (b 0))
    ∙ digit_at m n (λ k. f (suc k)) (λ k. b (suc k)) j (omega arith)
