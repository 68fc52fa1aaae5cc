-- The header read byte by byte, as functions on the bytes left: what is read, and what then is
-- left. A separator is skipped as far as it goes, and so are a number's digits, since neither a
-- digit can belong to a separator nor a separator's byte to a number.
use Rattle.std.specs.Prelude.{◌≡◌, refl, Bool, true, false, List, [], ◌∷◌, ℕ, zero, suc, ◌+◌, ◌*◌, ◌-◌, ◌<◌, ◌≤◌}
use Rattle.std.proofs.Common.{◌∙◌, arith}
use Rattle.std.proofs.Math.Option.{Option, none, some}
use Rattle.std.proofs.Math.Decide.{dec_le, dec_lt, ℕ_discrete}
use Rattle.mapfile.specs.Header.{Blank, space, tab, return, feed, LineEnd, at_return, at_feed, Digit, most_digits}

-- Whether a byte is a blank, a line's end, a digit.
unfoldable pub blank_dec : (b : ℕ) → Dec (Blank b)
blank_dec b = go (ℕ_discrete b 32) (ℕ_discrete b 9) (ℕ_discrete b 13) (ℕ_discrete b 10)
  where
    go : Dec (b ≡ 32) → Dec (b ≡ 9) → Dec (b ≡ 13) → Dec (b ≡ 10) → Dec (Blank b)
    go (yes p) q r s = yes (space p)
    go (no p) (yes q) r s = yes (tab q)
    go (no p) (no q) (yes r) s = yes (return r)
    go (no p) (no q) (no r) (yes s) = yes (feed s)
    go (no p) (no q) (no r) (no s) = no none_of
      where
        none_of : Blank b → ⊥
        none_of (space e) = p e
        none_of (tab e) = q e
        none_of (return e) = r e
        none_of (feed e) = s e

unfoldable pub line_end_dec : (b : ℕ) → Dec (LineEnd b)
line_end_dec b = go (ℕ_discrete b 13) (ℕ_discrete b 10)
  where
    go : Dec (b ≡ 13) → Dec (b ≡ 10) → Dec (LineEnd b)
    go (yes p) q = yes (at_return p)
    go (no p) (yes q) = yes (at_feed q)
    go (no p) (no q) = no none_of
      where
        none_of : LineEnd b → ⊥
        none_of (at_return e) = p e
        none_of (at_feed e) = q e

unfoldable pub digit_dec : (b : ℕ) → Dec (Digit b)
digit_dec b = go (dec_le 48 b) (dec_le b 57)
  where
    go : Dec (48 ≤ b) → Dec (b ≤ 57) → Dec (Digit b)
    go (yes p) (yes q) = yes (record { from_zero = p; to_nine = q })
    go (yes p) (no q) = no (λ d. q d.to_nine)
    go (no p) q = no (λ d. p d.from_zero)

-- One of two, as a test says.
unfoldable pub pick : {P A : Type 0} → Dec P → A → A → A
pick (yes p) a b = a
pick (no p) a b = b

pub pick_yes : {P A : Type 0} (d : Dec P) (a b : A) → P → pick d a b ≡ a
unfolding pick
pick_yes (yes p) a b q = refl
pick_yes (no p) a b q = absurd (p q)

pub pick_no : {P A : Type 0} (d : Dec P) (a b : A) → ¬ P → pick d a b ≡ b
unfolding pick
pick_no (yes p) a b q = absurd (q p)
pick_no (no p) a b q = refl

-- A separator ends here: it is one if a blank was among its items.
unfoldable pub end_items : Bool → List ℕ → Option (List ℕ)
end_items true l = some l
end_items false l = none

-- What follows the items of a separator, and what follows the rest of a comment and the items after
-- it. `seen`: a blank was among the items so far.
unfoldable mutual
  pub after_items : List ℕ → Bool → Option (List ℕ)
  after_items [] seen = end_items seen []
  after_items (b ∷ l) seen =
      pick (ℕ_discrete b 35) (after_comment l seen) (pick (blank_dec b) (after_items l true) (end_items seen (b ∷ l)))

  pub after_comment : List ℕ → Bool → Option (List ℕ)
  after_comment [] seen = none
  after_comment (b ∷ l) seen = pick (line_end_dec b) (after_items l seen) (after_comment l seen)

pub comment_none : (seen : Bool) → after_comment [] seen ≡ none
unfolding after_comment
comment_none seen = refl

pub comment_ends : {b : ℕ} (l : List ℕ) (seen : Bool) → LineEnd b → after_comment (b ∷ l) seen ≡ after_items l seen
unfolding after_comment
comment_ends {b} l seen e = pick_yes (line_end_dec b) _ _ e

pub comment_goes_on : {b : ℕ} (l : List ℕ) (seen : Bool) → ¬ LineEnd b → after_comment (b ∷ l) seen ≡ after_comment l seen
unfolding after_comment
comment_goes_on {b} l seen e = pick_no (line_end_dec b) _ _ e

pub items_hash : {b : ℕ} (l : List ℕ) (seen : Bool) → b ≡ 35 → after_items (b ∷ l) seen ≡ after_comment l seen
unfolding after_items
items_hash {b} l seen e = pick_yes (ℕ_discrete b 35) _ _ e

-- No blank is a #.
pub blank_no_hash : {b : ℕ} → Blank b → ¬ (b ≡ 35)
blank_no_hash (space e) q = omega arith
blank_no_hash (tab e) q = omega arith
blank_no_hash (return e) q = omega arith
blank_no_hash (feed e) q = omega arith

pub items_blank : {b : ℕ} (l : List ℕ) (seen : Bool) → Blank b → after_items (b ∷ l) seen ≡ after_items l true
unfolding after_items
items_blank {b} l seen e = pick_no (ℕ_discrete b 35) _ _ (blank_no_hash e) ∙ pick_yes (blank_dec b) _ _ e

pub items_stop : {b : ℕ} (l : List ℕ) (seen : Bool) → ¬ Blank b → ¬ (b ≡ 35) → after_items (b ∷ l) seen ≡ end_items seen (b ∷ l)
unfolding after_items
items_stop {b} l seen e q = pick_no (ℕ_discrete b 35) _ _ q ∙ pick_no (blank_dec b) _ _ e

pub items_none : (seen : Bool) → after_items [] seen ≡ end_items seen []
unfolding after_items
items_none seen = refl

-- A number's value and the bytes after it, or none.
pub data Value : Type 0 where
  value : ℕ → List ℕ → Value
  no_value : Value

-- A number ends here, after so many digits: it is one if there was a digit.
unfoldable pub end_number : ℕ → ℕ → List ℕ → Value
end_number zero v l = no_value
end_number (suc n) v l = value v l

-- The value and what follows it, after n digits whose value is v. One digit too many, and there is
-- no number.
unfoldable pub number_from : List ℕ → ℕ → ℕ → Value
number_from [] n v = end_number n v []
number_from (b ∷ l) n v =
    pick (digit_dec b) (pick (dec_lt n most_digits) (number_from l (suc n) (v * 10 + (b - 48))) no_value) (end_number n v (b ∷ l))

pub number_none : (n v : ℕ) → number_from [] n v ≡ end_number n v []
unfolding number_from
number_none n v = refl

pub number_digit : {b : ℕ} (l : List ℕ) (n v : ℕ) → Digit b → n < most_digits → number_from (b ∷ l) n v ≡ number_from l (suc n) (v * 10 + (b - 48))
unfolding number_from
number_digit {b} l n v d m = pick_yes (digit_dec b) _ _ d ∙ pick_yes (dec_lt n most_digits) _ _ m

pub number_many : {b : ℕ} (l : List ℕ) (n v : ℕ) → Digit b → ¬ (n < most_digits) → number_from (b ∷ l) n v ≡ no_value
unfolding number_from
number_many {b} l n v d m = pick_yes (digit_dec b) _ _ d ∙ pick_no (dec_lt n most_digits) _ _ m

pub number_stop : {b : ℕ} (l : List ℕ) (n v : ℕ) → ¬ Digit b → number_from (b ∷ l) n v ≡ end_number n v (b ∷ l)
unfolding number_from
number_stop {b} l n v d = pick_no (digit_dec b) _ _ d

-- A separator and the number after it.
unfoldable pub number_after : Option (List ℕ) → Value
number_after none = no_value
number_after (some l) = number_from l 0 0

unfoldable pub next_number : List ℕ → Value
next_number l = number_after (after_items l false)

-- The blank byte after the last number.
unfoldable pub last_blank : List ℕ → Option (List ℕ)
last_blank [] = none
last_blank (b ∷ l) = pick (blank_dec b) (some l) none

pub last_blank_none : last_blank [] ≡ none
unfolding last_blank
last_blank_none = refl

pub last_blank_there : {b : ℕ} (l : List ℕ) → Blank b → last_blank (b ∷ l) ≡ some l
unfolding last_blank
last_blank_there {b} l e = pick_yes (blank_dec b) _ _ e

pub last_blank_other : {b : ℕ} (l : List ℕ) → ¬ Blank b → last_blank (b ∷ l) ≡ none
unfolding last_blank
last_blank_other {b} l e = pick_no (blank_dec b) _ _ e

-- The bytes l give these numbers, each after a separator, then the blank byte after the last, and
-- this is what follows.
unfoldable pub GivesNumbers : List ℕ → List ℕ → List ℕ → Type 0
GivesNumbers [] l rest = last_blank l ≡ some rest
GivesNumbers (v ∷ vs) l rest = (m : List ℕ) × (next_number l ≡ value v m) × GivesNumbers vs m rest
