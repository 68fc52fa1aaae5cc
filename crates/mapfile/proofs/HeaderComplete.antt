-- What is a header by the grammar the working accepts, with the same numbers and the same rest. A
-- separator's items are skipped whole, since what follows it is a digit, and a number's digits are,
-- since what follows it is a blank or a #.
use Rattle.std.specs.Prelude.{◌≡◌, refl, Bool, true, false, List, [], ◌∷◌, ◌++◌, ◌⊎◌, ℕ, zero, suc, ◌+◌, ◌*◌, ◌-◌, ◌<◌, ◌≤◌, length, get_or}
use Rattle.std.proofs.Common.{sym, ap, ◌∙◌, append_assoc, inl, inr, arith}
use Rattle.std.proofs.Math.Option.{some}
use Rattle.mapfile.specs.Header.{
  Blank,
  space,
  tab,
  return,
  feed,
  LineEnd,
  Items,
  no_items,
  blank_item,
  comment_item,
  Separator,
  Digit,
  value_from,
  most_digits,
  Number,
  Numbers,
  last_blank_lem,
  next_number_lem,
  Header,
}
use Rattle.mapfile.specs.HeaderWorking.{
  end_items,
  after_items,
  after_comment,
  items_hash,
  items_blank,
  items_stop,
  comment_ends,
  comment_goes_on,
  value,
  end_number,
  number_from,
  number_none,
  number_digit,
  number_stop,
  number_after,
  next_number,
  last_blank_there,
  GivesNumbers,
}

-- No blank and no # is a digit.
pub blank_no_digit : {b : ℕ} → Blank b → ¬ Digit b
blank_no_digit (space e) d = omega (arith, d.from_zero)
blank_no_digit (tab e) d = omega (arith, d.from_zero)
blank_no_digit (return e) d = omega (arith, d.from_zero)
blank_no_digit (feed e) d = omega (arith, d.from_zero)

-- The bytes begin with a digit; with no digit.
abbrev pub DigitFirst : List ℕ → Type 0
DigitFirst [] = ⊥
DigitFirst (b ∷ l) = Digit b

abbrev pub NoDigitFirst : List ℕ → Type 0
NoDigitFirst [] = Unit {0}
NoDigitFirst (b ∷ l) = ¬ Digit b

-- The separator ends at a digit.
items_end : (rest : List ℕ) → DigitFirst rest → after_items rest true ≡ some rest
unfolding end_items
items_end [] f = absurd f
items_end (b ∷ l) f = items_stop l true (λ q. blank_no_digit q f) (λ e. omega (arith, f.from_zero))

-- The rest of a comment is skipped.
comment_skipped : (text : List ℕ) {end : ℕ} (l : List ℕ) (seen : Bool) → ((k : ℕ) → k < length text → ¬ LineEnd (get_or text k 0)) → LineEnd end
    → after_comment (text ++ end ∷ l) seen ≡ after_items l seen
comment_skipped [] l seen plain e = comment_ends l seen e
comment_skipped (b ∷ text) l seen plain e =
    comment_goes_on _ seen (plain 0 (omega arith)) ∙ comment_skipped text l seen (λ k m. plain (suc k) (omega arith)) e

-- All items are skipped, and at their end a blank was seen.
pub items_skipped : {n : ℕ} {l : List ℕ} → Items n l → (rest : List ℕ) → DigitFirst rest → (seen : Bool) → (seen ≡ true) ⊎ (1 ≤ n)
    → after_items (l ++ rest) seen ≡ some rest
items_skipped {n} {l} (no_items p q) rest f seen s = rw q (go seen s)
  where
    go : (b : Bool) → (b ≡ true) ⊎ (1 ≤ n) → after_items rest b ≡ some rest
    go b (inl e) = rw e (items_end rest f)
    go b (inr e) = absurd (omega arith)
items_skipped (blank_item {l} {k} b q i p e) rest f seen s = rw e (items_blank (k ++ rest) seen q ∙ items_skipped i rest f true (inl refl))
items_skipped (comment_item {n} {l} {k} c q i e) rest f seen s = rw e (whole ∙ items_skipped i rest f seen s)
  where
    whole : after_items (c ++ k ++ rest) seen ≡ after_items (k ++ rest) seen
    whole =
        rw (q.is, append_assoc)
        (items_hash _ seen refl ∙ rw (append_assoc q.text (q.end ∷ []) (k ++ rest)) (comment_skipped q.text (k ++ rest) seen q.no_line_end q.ended))

-- The number ends at the first byte that is no digit.
number_end : (rest : List ℕ) → NoDigitFirst rest → (n v : ℕ) → 1 ≤ n → number_from rest n v ≡ value v rest
unfolding end_number
number_end [] f zero v s = absurd (omega arith)
number_end [] f (suc n) v s = number_none (suc n) v
number_end (b ∷ l) f zero v s = absurd (omega arith)
number_end (b ∷ l) f (suc n) v s = number_stop l (suc n) v f

-- All digits are taken.
pub number_taken : (d : List ℕ) (rest : List ℕ) (n v : ℕ) → ((k : ℕ) → k < length d → Digit (get_or d k 0)) → 1 ≤ n + length d
    → n + length d ≤ most_digits → NoDigitFirst rest → number_from (d ++ rest) n v ≡ value (value_from v d) rest
unfolding value_from
number_taken [] rest n v digits one few f = number_end rest f n v (omega arith)
number_taken (b ∷ d) rest n v digits one few f =
    number_digit (d ++ rest) n v (digits 0 (omega arith)) (omega arith)
    ∙ number_taken d rest (suc n) (v * 10 + (b - 48)) (λ k m. digits (suc k) (omega arith)) (omega arith) (omega arith) f

-- What begins with a digit, and what with none.
number_first : {v : ℕ} (d rest : List ℕ) → Number v d → DigitFirst (d ++ rest)
number_first [] rest n = absurd (omega (arith, n.some))
number_first (b ∷ d) rest n = n.digits 0 (omega arith)

items_first : {n : ℕ} {l : List ℕ} (rest : List ℕ) → Items n l → 1 ≤ n → NoDigitFirst (l ++ rest)
items_first rest (no_items p q) s = absurd (omega arith)
items_first rest (blank_item {k} b q i p e) s = rw e (blank_no_digit q)
items_first rest (comment_item {k} c q i e) s = rw (e, q.is) (λ d. omega (arith, d.from_zero))

numbers_first : {vs l : List ℕ} (rest : List ℕ) → Numbers vs l → NoDigitFirst (l ++ rest)
numbers_first rest (last_blank_lem b q p e) = rw e (blank_no_digit q)
numbers_first rest (next_number_lem v s d k q n m p e) =
    rw (e, append_assoc (s ++ d) k rest, append_assoc s d (k ++ rest)) (items_first (d ++ (k ++ rest)) q.items q.some)

pub next_complete : {v : ℕ} (s d rest : List ℕ) → Separator s → Number v d → NoDigitFirst rest → next_number (s ++ d ++ rest) ≡ value v rest
unfolding next_number number_after
next_complete {v} s d rest q n f =
    ap number_after
    (ap (λ (l : List ℕ). after_items l false) (append_assoc s d rest)
    ∙ items_skipped q.items (d ++ rest) (number_first d rest n) false (inr q.some))
    ∙ number_taken d rest 0 0 n.digits (omega (arith, n.some)) (omega (arith, n.few)) f
    ∙ ap (λ (u : ℕ). value u rest) (sym n.value)

-- Completeness: a header gives its numbers.
pub numbers_complete : {vs l : List ℕ} (rest : List ℕ) → Numbers vs l → GivesNumbers vs (l ++ rest) rest
unfolding GivesNumbers
numbers_complete rest (last_blank_lem b q p e) = rw (p, e) (last_blank_there rest q)
numbers_complete rest (next_number_lem {vs} v s d k q n m p e) =
    rw (p, e, append_assoc (s ++ d) k rest) (k ++ rest, next_complete s d (k ++ rest) q n (numbers_first rest m), numbers_complete rest m)

pub header_complete : {vs l rest : List ℕ} → Header vs l rest → GivesNumbers vs l rest
header_complete {vs} {l} {rest} h = rw h.is (numbers_complete rest h.numbers)
