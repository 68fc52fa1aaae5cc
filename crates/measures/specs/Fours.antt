-- Four numbers of a sheet at a time, and whether they are all the same.
use Rattle.std.specs.Prelude.{◌≡◌, List, ℕ, ◌+◌, ◌*◌, ◌<◌, get_or}

-- A number of sixteen bits.
abbrev pub Sixteen : ℕ → Type 0
Sixteen n = n < 0x1_0000

-- Four, as the digits of one number, the lowest first.
abbrev pub joined : (a b c d : ℕ) → ℕ
joined a b c d = a + 0x1_0000 * b + 0x1_0000_0000 * c + 0x1_0000_0000_0000 * d

pub record Joined (i : ℕ) (s : List ℕ) (r : ℕ) : Type 0 where
  pub is : r ≡ joined (get_or s i 0) (get_or s (i + 1) 0) (get_or s (i + 2) 0) (get_or s (i + 3) 0)
  pub most : Sixteen (get_or s i 0) × Sixteen (get_or s (i + 1) 0) × Sixteen (get_or s (i + 2) 0) × Sixteen (get_or s (i + 3) 0)

-- All four are n.
abbrev pub AllAre : ℕ → ℕ → List ℕ → Type 0
AllAre i n s = (j : ℕ) → j < 4 → get_or s (i + j) 0 ≡ n
