-- Numbers and the header as the code writes them, computed. That these are the grammar's numbers
-- and header stands in DigitLaws.
use Rattle.std.specs.Prelude.{List, [], ◌∷◌, ◌++◌, ℕ, zero, suc, ◌+◌, ◌-◌, ◌/◌, ◌%◌, ◌^◌, ◌<◌, ◌≤◌, get_or}

-- n digits hold the number, and n - 1 do not; 0 has one digit.
pub record DigitCount (v n : ℕ) : Type 0 where
  pub some : 1 ≤ n
  pub enough : v < 10 ^ n
  pub needed : 2 ≤ n → 10 ^ (n - 1) ≤ v

-- The n lowest decimal digits of v, the highest first.
unfoldable pub digits_of : ℕ → ℕ → List ℕ
digits_of zero v = []
digits_of (suc n) v = digits_of n (v / 10) ++ (48 + v % 10) ∷ []

-- The first two bytes, the letters of a format.
abbrev pub two_of : List ℕ → List ℕ
two_of l = get_or l 0 0 ∷ get_or l 1 0 ∷ []

-- The header: a format's letters, LF, a digits of the width, space, b digits of the height, LF.
unfoldable pub header_of : List ℕ → ℕ → ℕ → ℕ → ℕ → List ℕ
header_of letters w a h b = letters ++ 10 ∷ digits_of a w ++ 32 ∷ digits_of b h ++ 10 ∷ []
