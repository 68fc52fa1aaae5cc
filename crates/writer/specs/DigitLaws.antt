-- The digits that the code writes are the grammar's number without leading zeros: a digit more
-- multiplies the value by ten and adds the digit.
use Rattle.std.specs.Prelude.{◌≡◌, refl, List, [], ◌∷◌, ◌++◌, ℕ, zero, suc, ◌+◌, ◌*◌, ◌-◌, ◌/◌, ◌%◌, ◌^◌, ◌<◌, ◌≤◌, length, get_or}
use Rattle.std.proofs.Common.{sym, ◌∙◌, arith, pow-suc, length-append}
use Rattle.std.proofs.Math.Decide.{dec_lt}
use Rattle.std.proofs.Math.Nat.{pow-le-pow_right}
use Rattle.std.proofs.Math.ListN.{get_or-append}
use Rattle.std.proofs.lemmas.List.{get_or_at}
use Rattle.mapfile.specs.Header.{Digit, value_from, most_digits}
use Rattle.mapfile.specs.Written.{Plain}
use Rattle.mapfile.specs.PlainLaws.{AllDigits, value_append}
use Rattle.writer.specs.Digits.{DigitCount, digits_of}

pub digits_length : (n v : ℕ) → length (digits_of n v) ≡ n
unfolding digits_of
digits_length zero v = refl
digits_length (suc n) v = length-append (digits_of n (v / 10)) ((48 + v % 10) ∷ []) ∙ omega (arith, digits_length n (v / 10))

-- A digit after digits.
digits_more : (l : List ℕ) (d : ℕ) → AllDigits l → Digit d → AllDigits (l ++ d ∷ [])
digits_more l d p q k h = go (dec_lt k (length l))
  where
    size : length (l ++ d ∷ []) ≡ suc (length l)
    size = length-append l (d ∷ []) ∙ omega arith

    go : Dec (k < length l) → Digit (get_or (l ++ d ∷ []) k 0)
    go (yes m) = rw (get_or-append l (d ∷ []) 0 k m) (p k m)
    go (no m) = rw (get_or_at l d [] 0 k (omega (arith, size))) q

pub digits_all : (n v : ℕ) → AllDigits (digits_of n v)
unfolding digits_of
digits_all zero v = λ k h. absurd (omega arith)
digits_all (suc n) v =
    digits_more (digits_of n (v / 10)) (48 + v % 10) (digits_all n (v / 10)) (record { from_zero = omega arith; to_nine = omega arith })

pub digits_value : (n v : ℕ) → v < 10 ^ n → v ≡ value_from 0 (digits_of n v)
unfolding digits_of value_from
digits_value zero v h = omega arith
digits_value (suc n) v h =
    let m : v < 10 ^ n * 10 = rw (pow-suc 10 n) at h in
    let front : v / 10 ≡ value_from 0 (digits_of n (v / 10)) = digits_value n (v / 10) (omega arith) in
    sym (value_append 0 (digits_of n (v / 10)) ((48 + v % 10) ∷ []) ∙ omega arith)

digits_leading : (n v : ℕ) → 10 ^ n ≤ v → v < 10 ^ suc n → ¬ (get_or (digits_of (suc n) v) 0 0 ≡ 48)
unfolding digits_of
digits_leading zero v p q e = omega arith
digits_leading (suc n) v p q e =
    let a : 10 ^ n * 10 ≤ v = rw (pow-suc 10 n) at p in
    let b : v < 10 ^ suc n * 10 = rw (pow-suc 10 (suc n)) at q in
    let first = get_or-append (digits_of (suc n) (v / 10)) ((48 + v % 10) ∷ []) 0 0 (omega (arith, digits_length (suc n) (v / 10))) in
    digits_leading n (v / 10) (omega arith) (omega arith) (sym first ∙ e)

-- A number has no more digits than hold it.
pub digits_few : {v n : ℕ} → DigitCount v n → (k : ℕ) → 1 ≤ k → v < 10 ^ k → n ≤ k
digits_few {v} {n} c k some l = go (dec_lt k n)
  where
    go : Dec (k < n) → n ≤ k
    go (yes m) = absurd (omega (arith, c.needed (omega arith), pow-le-pow_right {n = 10} (omega arith) {i = k} {j = n - 1} (omega arith)))
    go (no m) = omega arith

-- The first of its digits is no zero, but where 0 is the number.
pub digits_first : (v n : ℕ) → DigitCount v n → 1 ≤ v → ¬ (get_or (digits_of n v) 0 0 ≡ 48)
digits_first v zero c some = absurd (omega (arith, c.some))
digits_first v (suc zero) c some = digits_leading 0 v some c.enough
digits_first v (suc (suc n)) c some = digits_leading (suc n) v (rw less at (c.needed (omega arith))) c.enough
  where
    less : suc (suc n) - 1 ≡ suc n
    less = omega arith

-- As many digits as the number has are the number, without leading zeros.
pub digits_plain : (v n : ℕ) → 1 ≤ v → v < 10 ^ most_digits → DigitCount v n → Plain v (digits_of n v)
unfolding most_digits
digits_plain v n some short c =
    record {
      number = record {
        digits = digits_all n v;
        some = omega (arith, digits_length n v, c.some);
        few = omega (arith, digits_length n v, digits_few c most_digits (omega arith) short);
        value = digits_value n v c.enough;
      };
      leading = digits_first v n c some;
    }
