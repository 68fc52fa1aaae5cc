-- Numbers, lines of numbers and refusals as the programs print them. "A refusal prints one line,
-- 'refused', a space and the number"; "of a longer input it prints only 'refused long'."
use Rattle.std.specs.Prelude.{◌≡◌, List, [], ◌∷◌, ◌++◌, ℕ, ◌+◌, ◌<◌, ◌≤◌, length, get_or}
use Rattle.mapfile.specs.Header.{Digit, value_from}

-- No number of 64 bits has more decimal digits.
abbrev pub most_printed : ℕ
most_printed = 20

-- Room for a number and one byte after it.
abbrev pub number_room : ℕ
number_room = most_printed + 1

-- A number as it is printed: decimal digits with no leading zeros, and 0 as one digit.
pub record Printed (v : ℕ) (l : List ℕ) : Type 0 where
  pub digits : (k : ℕ) → k < length l → Digit (get_or l k 0)
  pub some : 1 ≤ length l
  pub value : v ≡ value_from 0 l
  pub leading : 2 ≤ length l → ¬ (get_or l 0 0 ≡ 48)

-- Numbers with a space between, and LF after the last.
pub data Line : List ℕ → List ℕ → Type 0 where
  last_number : {vs l : List ℕ} (v : ℕ) (d : List ℕ) → Printed v d → vs ≡ v ∷ [] → l ≡ d ++ 10 ∷ [] → Line vs l
  next_number_lem : {vs us l : List ℕ} (v : ℕ) (d k : List ℕ) → Printed v d → Line us k → vs ≡ v ∷ us → l ≡ d ++ 32 ∷ k → Line vs l

-- "refused " and "refused long", each with LF after it.
abbrev pub refused : List ℕ
refused = 114 ∷ 101 ∷ 102 ∷ 117 ∷ 115 ∷ 101 ∷ 100 ∷ 32 ∷ []

abbrev pub long : List ℕ
long = 108 ∷ 111 ∷ 110 ∷ 103 ∷ 10 ∷ []

-- "A refusal prints one line, 'refused', a space and the number."
pub record RefusalLine (n : ℕ) (l : List ℕ) : Type 0 where
  pub digits : List ℕ
  pub printed : Printed n digits
  pub is : l ≡ refused ++ digits ++ 10 ∷ []
