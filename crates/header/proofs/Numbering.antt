-- What the loop over a number's digits keeps true: after each digit, the digits left lead to the
-- same number. So far there are as many digits as bytes passed, and their value is below as high a
-- power of ten.
use mathlib.Core.Path.{◌≡◌, sym, ap, ◌∙◌}
use mathlib.Core.List.{List}
use Prim.Native.Nat.{ℕ, zero, suc, ◌+◌, ◌*◌, ◌-◌, ◌^◌, ◌<◌, ◌≤◌}
use native.Mathlib.Omega.{arith}
use native.Mathlib.Nat.{pow-suc, pow-le-pow_right}
use lib.ListN.{length, get_or, drop, drop_of_length-le}
use Rattle.mapfile.specs.Header.{Digit, most_digits}
use Rattle.mapfile.specs.HeaderWorking.{no_value, end_number, number_from, number_none, number_digit, number_many, number_stop}
use Rattle.header.specs.HeaderParts.{NumeralRead, numeral_end}
use Rattle.header.specs.declared.Numeral.{Numeral}
use Rattle.std.proofs.Common.{Option as Maybe}
use Rattle.header.specs.Left.{left_cons}

pub record Numbering (s : List ℕ) (at v i : ℕ) : Type 0 where
  pub from : at ≤ i
  pub within : i ≤ length s
  pub few : i - at ≤ most_digits
  pub small : v < 10 ^ (i - at)
  pub same : number_from (drop at s) 0 0 ≡ number_from (drop i s) (i - at) v

-- The value of the digits, with as many as there may be, is small.
pub value_small : {s : List ℕ} {at v i : ℕ} → Numbering s at v i → v < 1000000000
unfolding most_digits
value_small {s} {at} {v} {i} k = omega (arith, k.small, pow-le-pow_right {n = 10} (omega arith) {i = i - at} {j = 9} k.few)

module _ {s : List ℕ} {at v i : ℕ} (k : Numbering s at v i) where
  pub numbering_more : i < length s → Digit (get_or s i 0) → ¬ (i - at ≡ 9) → Numbering s at (v * 10 + (get_or s i 0 - 48)) (i + 1)
  unfolding most_digits
  numbering_more l d m =
      record {
        from = omega (arith, k.from);
        within = omega arith;
        few = omega (arith, k.from, k.few);
        small = rw next (omega (arith, k.small, pow-suc 10 (i - at), d.from_zero, d.to_nine));
        same = k.same ∙ ap (λ (t : List ℕ). number_from t (i - at) v) (left_cons s i l)
            ∙ number_digit (drop (i + 1) s) (i - at) v d (omega (arith, k.few))
            ∙ ap (λ (n : ℕ). number_from (drop (i + 1) s) n (v * 10 + (get_or s i 0 - 48))) (sym next);
      }
    where
      next : i + 1 - at ≡ suc (i - at)
      next = omega (arith, k.from)

  -- One digit too many.
  pub numbering_many : i < length s → Digit (get_or s i 0) → i - at ≡ 9 → number_from (drop at s) 0 0 ≡ no_value
  unfolding most_digits
  numbering_many l d m =
      k.same ∙ ap (λ (t : List ℕ). number_from t (i - at) v) (left_cons s i l) ∙ number_many (drop (i + 1) s) (i - at) v d (omega arith)

  end_read : (n : ℕ) → number_from (drop at s) 0 0 ≡ end_number n v (drop i s) → (r : Maybe Numeral) → r ≡ numeral_end n v i
      → NumeralRead s (number_from (drop at s) 0 0) r
  unfolding end_number
  end_read zero e r q = rw q e
  end_read (suc n) e r q = rw q (k.within, e)

  pub numbering_stop : (r : Maybe Numeral) → i < length s → ¬ Digit (get_or s i 0) → r ≡ numeral_end (i - at) v i
      → NumeralRead s (number_from (drop at s) 0 0) r
  numbering_stop r l d q =
      end_read (i - at)
      (k.same ∙ ap (λ (t : List ℕ). number_from t (i - at) v) (left_cons s i l) ∙ number_stop (drop (i + 1) s) (i - at) v d
      ∙ ap (end_number (i - at) v) (sym (left_cons s i l))) r q

  pub numbering_end : (r : Maybe Numeral) → length s ≤ i → r ≡ numeral_end (length s - at) v (length s) → NumeralRead s (number_from (drop at s) 0 0) r
  numbering_end r l p =
      let e : length s ≡ i = omega (arith, k.within) in
      let q : r ≡ numeral_end (i - at) v i = p ∙ ap (λ (n : ℕ). numeral_end (n - at) v n) e in
      end_read (i - at)
      (k.same ∙ ap (λ (t : List ℕ). number_from t (i - at) v) (drop_of_length-le s l) ∙ number_none (i - at) v
      ∙ ap (end_number (i - at) v) (sym (drop_of_length-le s l))) r q
