-- What the planners' program prints for some inputs, as a table of rows, byte by byte. That every
-- row holds is proved in Settled.
use Rattle.std.specs.Prelude.{List, [], ◌∷◌, ◌++◌, ℕ}
use Rattle.mapfile.specs.FollowingTable.{one_map}
use Rattle.printing.specs.Settled.{refused_12}
use Rattle.planning.specs.Promise.{Text}

pub record Row : Type 0 where
  pub input : List ℕ
  pub text : List ℕ

-- What a row claims.
abbrev pub Holds : Row → Type 0
Holds r = Text r.input r.text

pub data EveryRow : List Row → Type 0 where
  none : EveryRow []
  one : {r : Row} {rs : List Row} → Holds r → EveryRow rs → EveryRow (r ∷ rs)

-- A line of four digits.
abbrev line : ℕ → ℕ → ℕ → ℕ → List ℕ
line a b c d = a ∷ 32 ∷ b ∷ 32 ∷ c ∷ 32 ∷ d ∷ 10 ∷ []

-- P4, LF, "1 1", LF and a byte: one open crossing. "Pad bits at a row's end are ignored."
abbrev pub open_map : List ℕ
open_map = 80 ∷ 52 ∷ 10 ∷ 49 ∷ 32 ∷ 49 ∷ 10 ∷ 0b01111111 ∷ []

-- Each corner of it, and of a map 8 by 1 with a rock in the east.
abbrev pub open_text : List ℕ
open_text = line 49 49 48 48 ++ line 49 49 48 48 ++ line 49 49 48 48 ++ line 49 49 48 48

abbrev pub one_text : List ℕ
one_text = line 55 55 48 48 ++ line 48 48 48 48 ++ line 55 55 48 48 ++ line 48 48 48 48

unfoldable pub table : List Row
table =
    -- "input with no bytes gives just four zeros"
    record { input = []; text = line 48 48 48 48 }
    -- "A last line gives the four sums over all lines before": of two maps, 18 open crossings
    ∷ record { input = one_map ++ open_map; text = one_text ++ open_text ++ (49 ∷ 56 ∷ 32 ∷ 49 ∷ 56 ∷ 32 ∷ 48 ∷ 32 ∷ 48 ∷ 10 ∷ []) }
    -- "a bad one ends the run with its refusal line in place of the sums"
    ∷ record { input = one_map ++ 10 ∷ []; text = one_text ++ refused_12 }
    ∷ []
