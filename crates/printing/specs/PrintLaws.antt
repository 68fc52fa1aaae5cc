-- A number is printed in one way, and as many digits as it has are that; so lines and refusals are
-- printed in one way too, and no one for another.
use Rattle.std.specs.Prelude.{◌≡◌, refl, List, [], ◌∷◌, ◌++◌, ℕ, ◌-◌, ◌<◌, ◌≤◌, length, get_or, take}
use Rattle.std.proofs.Common.{sym, ap, ◌∙◌, arith, length-append, take_at}
use Rattle.std.proofs.Math.Nat.{one-le-pow}
use Rattle.std.proofs.Math.Decide.{dec_lt}
use Rattle.std.proofs.Math.ListN.{get_or-append}
use Rattle.mapfile.specs.Header.{Digit, value_from}
use Rattle.mapfile.specs.PlainLaws.{value_same, digits_shortest}
use Rattle.writer.specs.Digits.{DigitCount, digits_of}
use Rattle.writer.specs.DigitLaws.{digits_length, digits_all, digits_value, digits_first}
use Rattle.printing.specs.Printed.{Printed, Line, last_number, next_number_lem, refused, long, RefusalLine}
use Rattle.printing.specs.Parts.{Put}

pub printed_one : {v : ℕ} {l k : List ℕ} → Printed v l → Printed v k → l ≡ k
printed_one {v} {l} {k} p q = go (dec_lt (length k) (length l)) (dec_lt (length l) (length k))
  where
    same : value_from 0 l ≡ value_from 0 k
    same = sym p.value ∙ q.value

    go : Dec (length k < length l) → Dec (length l < length k) → l ≡ k
    go (yes m) d = absurd (digits_shortest l k p.digits q.digits (p.leading (omega (arith, q.some))) same m)
    go (no m) (yes n) = absurd (digits_shortest k l q.digits p.digits (q.leading (omega (arith, p.some))) (sym same) n)
    go (no m) (no n) = (value_same 0 0 l k p.digits q.digits (omega arith) same).1

-- As many digits as a number has are the number as it is printed.
pub digits_printed : {v n : ℕ} → DigitCount v n → Printed v (digits_of n v)
digits_printed {v} {n} c =
    record {
      digits = digits_all n v;
      some = omega (arith, digits_length n v, c.some);
      value = digits_value n v c.enough;
      leading = λ l. digits_first v n c (some (omega (arith, digits_length n v)));
    }
  where
    some : 2 ≤ n → 1 ≤ v
    some l = omega (arith, c.needed l, one-le-pow (n - 1) 10 (omega arith))

-- A line has a number.
line_some : {vs l : List ℕ} → Line vs l → ¬ (vs ≡ [])
line_some (last_number v d p e f) n = let z : ◌≡◌ {A = ℕ} 0 1 = cc in omega arith
line_some (next_number_lem v d k p t e f) n = let z : ◌≡◌ {A = ℕ} 0 1 = cc in omega arith

pub line_one : {vs us l k : List ℕ} → vs ≡ us → Line vs l → Line us k → l ≡ k
line_one s (last_number v d p e f) (last_number v' d' p' e' f') =
    let same : v ≡ v' = cc in
    let number : d ≡ d' = printed_one p (rw same p') in
    f ∙ rw number (sym f')
line_one s (last_number v d p e f) (next_number_lem {us} v' d' k' p' t' e' f') = absurd (line_some t' (cc))
line_one s (next_number_lem {us} v d k p t e f) (last_number v' d' p' e' f') = absurd (line_some t (cc))
line_one s (next_number_lem {us = ws} v d k p t e f) (next_number_lem {us = ws'} v' d' k' p' t' e' f') =
    let same : v ≡ v' = cc in
    let rest : ws ≡ ws' = cc in
    let number : d ≡ d' = printed_one p (rw same p') in
    let line : k ≡ k' = line_one rest t t' in
    f ∙ rw (number, line) (sym f')

-- A refusal's line, by its number and the other way round.
pub refusal_line_one : {n : ℕ} {l k : List ℕ} → RefusalLine n l → RefusalLine n k → l ≡ k
refusal_line_one p q = p.is ∙ rw (printed_one p.printed q.printed) (sym q.is)

-- What stands before the last byte.
before_last : (a b : List ℕ) → a ++ 10 ∷ [] ≡ b ++ 10 ∷ [] → a ≡ b
before_last a b e =
    sym (take_at a (10 ∷ []) (length a) refl) ∙ ap (take (length a)) e ∙ take_at b (10 ∷ []) (length a) (omega (arith, simp length-append at (ap length e)))

pub refusal_number_one : {n m : ℕ} {l k : List ℕ} → l ≡ k → RefusalLine n l → RefusalLine m k → n ≡ m
refusal_number_one s p q =
    let digits : p.digits ≡ q.digits = before_last p.digits q.digits (cc (p.is, q.is)) in
    omega (arith, p.printed.value, q.printed.value, ap (value_from 0) digits)

-- The first byte of a number, whatever follows it, is a digit: so no line of numbers is a refusal,
-- and no refusal with a number is the one that says long.
first_digit : {v : ℕ} {d : List ℕ} (k : List ℕ) → Printed v d → Digit (get_or (d ++ k) 0 0)
first_digit {d} k p = rw (get_or-append d k 0 0 p.some) (p.digits 0 p.some)

no_digit : (b c : ℕ) → Digit b → b ≡ c → 57 < c → ⊥
no_digit b c p e l = omega (arith, p.to_nine)

line_digit : {vs l : List ℕ} → Line vs l → Digit (get_or l 0 0)
line_digit (last_number v d p e f) = rw f (first_digit (10 ∷ []) p)
line_digit (next_number_lem v d k p t e f) = rw f (first_digit (32 ∷ k) p)

pub line_not_refused : {vs l k : List ℕ} → Line vs l → ¬ (l ≡ refused ++ k)
line_not_refused {l} {k} p e = no_digit (get_or l 0 0) (get_or (refused ++ k) 0 0) (line_digit p) (ap (λ (a : List ℕ). get_or a 0 0) e) (omega arith)

pub refusal_not_long : {n : ℕ} {l : List ℕ} → RefusalLine n l → ¬ (l ≡ refused ++ long)
refusal_not_long {n} {l} p e =
    let rest : p.digits ++ 10 ∷ [] ≡ long = cc p.is in
    no_digit (get_or (p.digits ++ 10 ∷ []) 0 0) 108 (first_digit (10 ∷ []) p.printed) (ap (λ (a : List ℕ). get_or a 0 0) rest) (omega arith)

-- A piece stands in the output in one way.
pub put_one : {out piece other a b : List ℕ} {at i j : ℕ} → piece ≡ other → Put out at piece a i → Put out at other b j → (i ≡ j) × (a ≡ b)
put_one {out} {piece} {other} {a} {b} {at} {i} {j} e p q =
    let end : i ≡ j = omega (arith, p.size, q.size, ap length e) in (end, p.is ∙ rw (e, end) (sym q.is))
