-- The header's grammar, on lists of bytes: blanks, comments, separators, numbers. It is free of the
-- format's letters and of how many numbers follow.
use Rattle.std.specs.Prelude.{◌≡◌, List, [], ◌∷◌, ◌++◌, ℕ, ◌+◌, ◌*◌, ◌-◌, ◌<◌, ◌≤◌, length, get_or}

-- "A blank is a space, TAB, CR or LF."
pub data Blank (b : ℕ) : Type 0 where
  space : b ≡ 32 → Blank b
  tab : b ≡ 9 → Blank b
  return : b ≡ 13 → Blank b
  feed : b ≡ 10 → Blank b

-- CR or LF.
pub data LineEnd (b : ℕ) : Type 0 where
  at_return : b ≡ 13 → LineEnd b
  at_feed : b ≡ 10 → LineEnd b

-- "a comment runs from # through the next CR or LF, which belongs to it"
pub record Comment (l : List ℕ) : Type 0 where
  pub text : List ℕ
  pub end : ℕ
  pub no_line_end : (k : ℕ) → k < length text → ¬ LineEnd (get_or text k 0)
  pub ended : LineEnd end
  pub is : l ≡ 35 ∷ text ++ end ∷ []

-- "A separator is one or more items, each a blank or a comment, at least one of them a blank; ...
-- and blanks and comments may follow one another freely." Items with n blanks among them.
pub data Items : ℕ → List ℕ → Type 0 where
  no_items : {n : ℕ} {l : List ℕ} → n ≡ 0 → l ≡ [] → Items n l
  blank_item : {n m : ℕ} {l k : List ℕ} (b : ℕ) → Blank b → Items n k → m ≡ n + 1 → l ≡ b ∷ k → Items m l
  comment_item : {n : ℕ} {l k : List ℕ} (c : List ℕ) → Comment c → Items n k → l ≡ c ++ k → Items n l

pub record Separator (l : List ℕ) : Type 0 where
  pub blanks : ℕ
  pub some : 1 ≤ blanks
  pub items : Items blanks l

-- A decimal digit.
pub record Digit (b : ℕ) : Type 0 where
  pub from_zero : 48 ≤ b
  pub to_nine : b ≤ 57

-- The value of decimal digits, the highest first, after those already read.
unfoldable pub value_from : ℕ → List ℕ → ℕ
value_from v [] = v
value_from v (d ∷ ds) = value_from (v * 10 + (d - 48)) ds

-- "A number is 1 to 9 decimal digits, leading zeros allowed."
unfoldable pub most_digits : ℕ
most_digits = 9

pub record Number (v : ℕ) (l : List ℕ) : Type 0 where
  pub digits : (k : ℕ) → k < length l → Digit (get_or l k 0)
  pub some : 1 ≤ length l
  pub few : length l ≤ most_digits
  pub value : v ≡ value_from 0 l

-- A separator before each number, and "exactly one blank byte" after the last: the header's bytes
-- after the letters, with the values of its numbers.
pub data Numbers : List ℕ → List ℕ → Type 0 where
  last_blank_lem : {vs l : List ℕ} (b : ℕ) → Blank b → vs ≡ [] → l ≡ b ∷ [] → Numbers vs l
  next_number_lem : {us vs l : List ℕ} (v : ℕ) (s d k : List ℕ) → Separator s → Number v d → Numbers vs k → us ≡ v ∷ vs → l ≡ s ++ d ++ k → Numbers us l

-- The bytes begin with such a header, and this is what follows it.
pub record Header (vs file rest : List ℕ) : Type 0 where
  pub bytes : List ℕ
  pub numbers : Numbers vs bytes
  pub is : file ≡ bytes ++ rest
