-- A file's first two bytes, the letters of its format.
use Rattle.std.specs.Prelude.{◌≡◌, refl, List, [], ◌∷◌, ℕ, ◌≤◌, length, get_or, drop}
use Rattle.std.proofs.Common.{arith}

-- The bytes begin with these two.
pub record SameTwo (file two : List ℕ) : Type 0 where
  pub long : 2 ≤ length file
  pub first : get_or file 0 0 ≡ get_or two 0 0
  pub second : get_or file 1 0 ≡ get_or two 1 0

-- So they are these two and what follows them, and the other way round.
pub two_first : (file : List ℕ) (a b : ℕ) → SameTwo file (a ∷ b ∷ []) → file ≡ a ∷ b ∷ drop 2 file
two_first [] a b s = absurd (omega (arith, s.long))
two_first (c ∷ []) a b s = absurd (omega (arith, s.long))
two_first (c ∷ d ∷ l) a b s = let p : c ≡ a = s.first in let q : d ≡ b = s.second in cc

pub first_two : (file rest : List ℕ) (a b : ℕ) → file ≡ a ∷ b ∷ rest → SameTwo file (a ∷ b ∷ [])
first_two file rest a b e = rw e (record { long = omega arith; first = refl; second = refl })
