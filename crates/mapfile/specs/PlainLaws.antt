-- A number has one way to be written without leading zeros. Read from the front, equal values of
-- equally many digits give equal digits; and if one had more digits, those in front would have the
-- value 0, though the first of them is no zero.
use Rattle.std.specs.Prelude.{◌≡◌, refl, List, [], ◌∷◌, ◌++◌, ℕ, suc, ◌+◌, ◌*◌, ◌-◌, ◌<◌, ◌≤◌, length, get_or, take, drop}
use Rattle.std.proofs.Common.{sym, ap, ◌∙◌, arith, length-drop, take-append-drop, get_or-drop}
use Rattle.std.proofs.Math.Decide.{dec_lt}
use Rattle.std.proofs.Math.Seq.{take-length}
use Rattle.mapfile.specs.Header.{Digit, value_from}
use Rattle.mapfile.specs.Written.{Plain}

-- Every byte of the list is a digit.
abbrev pub AllDigits : List ℕ → Type 0
AllDigits l = (k : ℕ) → k < length l → Digit (get_or l k 0)

pub value_append : (v : ℕ) (l k : List ℕ) → value_from v (l ++ k) ≡ value_from (value_from v l) k
unfolding value_from
value_append v [] k = refl
value_append v (d ∷ l) k = value_append (v * 10 + (d - 48)) l k

-- Digits after a number that is not 0 leave it so.
value_some : (v : ℕ) (l : List ℕ) → 1 ≤ v → 1 ≤ value_from v l
unfolding value_from
value_some v [] h = h
value_some v (d ∷ l) h = value_some (v * 10 + (d - 48)) l (omega arith)

-- Equally many digits after a and after b, of equal value: a is b and the digits are the same.
pub value_same : (a b : ℕ) (l k : List ℕ) → AllDigits l → AllDigits k → length l ≡ length k → value_from a l ≡ value_from b k → (a ≡ b) × (l ≡ k)
unfolding value_from
value_same a b [] [] p q s e = (e, refl)
value_same a b [] (d ∷ k) p q s e = absurd (omega arith)
value_same a b (d ∷ l) [] p q s e = absurd (omega arith)
value_same a b (d ∷ l) (c ∷ k) p q s e =
    go (value_same (a * 10 + (d - 48)) (b * 10 + (c - 48)) l k (λ i h. p (suc i) (omega arith)) (λ i h. q (suc i) (omega arith)) (omega arith) e)
  where
    go : (a * 10 + (d - 48) ≡ b * 10 + (c - 48)) × (l ≡ k) → (a ≡ b) × (d ∷ l ≡ c ∷ k)
    go t =
        let x : Digit d = p 0 (omega arith) in
        let y : Digit c = q 0 (omega arith) in
        let u : a * 10 + (d - 48) ≡ b * 10 + (c - 48) = t.0 in
        let m : d ≡ c = omega arith in
        let n : l ≡ k = t.1 in
        (omega arith, cc)

-- A front part that begins with another digit than 0 has some value.
front_some : (l : List ℕ) (n : ℕ) → AllDigits l → ¬ (get_or l 0 0 ≡ 48) → 1 ≤ n → 1 ≤ length l → 1 ≤ value_from 0 (take n l)
unfolding value_from
front_some [] n p z m h = absurd (omega arith)
front_some (d ∷ l) ℕ.zero p z m h = absurd (omega arith)
front_some (d ∷ l) (suc n) p z m h =
    let x : Digit d = p 0 (omega arith) in
    value_some (0 * 10 + (d - 48)) (take n l) (omega (arith, z))

-- So a number with no leading zeros is not 0.
pub plain_some : (v : ℕ) (l : List ℕ) → Plain v l → 1 ≤ v
plain_some v l p =
    omega (arith, rw (take-length l) at (front_some l (length l) p.number.digits p.leading p.number.some p.number.some), p.number.value)

-- And it has no more digits than any other of its value.
pub digits_shortest : (l k : List ℕ) → AllDigits l → AllDigits k → ¬ (get_or l 0 0 ≡ 48) → value_from 0 l ≡ value_from 0 k → ¬ (length k < length l)
digits_shortest l k p q z e h = clash (value_same 0 (value_from 0 front) k back q digits size same).0
  where
    front : List ℕ
    front = take (length l - length k) l

    back : List ℕ
    back = drop (length l - length k) l

    size : length k ≡ length back
    size = sym (length-drop (length l - length k) l ∙ omega arith)

    digits : AllDigits back
    digits i m = rw (get_or-drop (length l - length k) l i 0) (p (length l - length k + i) (omega (arith, size)))

    same : value_from 0 k ≡ value_from (value_from 0 front) back
    same = sym e ∙ ap (value_from 0) (sym (take-append-drop (length l - length k) l)) ∙ value_append 0 front back

    clash : 0 ≡ value_from 0 front → ⊥
    clash c = omega (arith, front_some l (length l - length k) p z (omega arith) (omega arith), c)

pub plain_one : (v : ℕ) (l k : List ℕ) → Plain v l → Plain v k → l ≡ k
plain_one v l k p q = go (dec_lt (length k) (length l)) (dec_lt (length l) (length k))
  where
    same : value_from 0 l ≡ value_from 0 k
    same = sym p.number.value ∙ q.number.value

    go : Dec (length k < length l) → Dec (length l < length k) → l ≡ k
    go (yes m) d = absurd (digits_shortest l k p.number.digits q.number.digits p.leading same m)
    go (no m) (yes n) = absurd (digits_shortest k l q.number.digits p.number.digits q.leading (sym same) n)
    go (no m) (no n) = (value_same 0 0 l k p.number.digits q.number.digits (omega arith) same).1
