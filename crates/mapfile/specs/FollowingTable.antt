-- Small inputs of maps that follow one another, and some long ones, as one table of rows. That
-- every row holds is proved in FollowingSettled.
use Rattle.std.specs.Prelude.{List, [], ◌∷◌, ◌++◌, ℕ, ◌-◌, replicate}
use Rattle.mapfile.specs.Following.{most_bytes, Outcome, a_map, refused, too_long, FirstIs}
use Rattle.mapfile.specs.Table.{raw_3_2, raw_8_1}

-- All bytes that are left, and what they begin with.
pub record Row : Type 0 where
  pub bytes : List ℕ
  pub outcome : Outcome

-- What a row claims.
abbrev pub Holds : Row → Type 0
Holds r = FirstIs r.bytes r.outcome

pub data EveryRow : List Row → Type 0 where
  none : EveryRow []
  one : {r : Row} {rs : List Row} → Holds r → EveryRow rs → EveryRow (r ∷ rs)

abbrev row : List ℕ → Outcome → Row
row l o = record { bytes = l; outcome = o }

abbrev pub one_bits : List ℕ
one_bits = 0 ∷ 0 ∷ 0 ∷ 0 ∷ 0 ∷ 0 ∷ 0 ∷ 1 ∷ []

-- P4, LF, "8 1", LF and a byte: the map 8 by 1 with a rock in the east.
abbrev pub one_map : List ℕ
one_map = raw_8_1 ++ 0b00000001 ∷ []

unfoldable pub small_rows : List Row
small_rows =
    -- "P4 maps one after another": the second is what the first leaves.
    row (one_map ++ one_map) (a_map 8 1 one_bits one_map)
    ∷ row one_map (a_map 8 1 one_bits [])
    -- "15 is not given for bytes after a raster; they begin the next map, and a bad one ends the
    -- run".
    ∷ row (one_map ++ 10 ∷ []) (a_map 8 1 one_bits (10 ∷ []))
    ∷ row (10 ∷ []) (refused 12)
    -- "12 is given for any start but P4": P1, LF, "1 1", LF, "0"; P; P5.
    ∷ row (80 ∷ 49 ∷ 10 ∷ 49 ∷ 32 ∷ 49 ∷ 10 ∷ 48 ∷ []) (refused 12)
    ∷ row (80 ∷ []) (refused 12)
    ∷ row (80 ∷ 53 ∷ []) (refused 12)
    -- 13 for a header cut short or against the rules, 1, and 14.
    ∷ row (80 ∷ 52 ∷ 10 ∷ 48 ∷ 32 ∷ 49 ∷ []) (refused 13)
    ∷ row (80 ∷ 52 ∷ 88 ∷ []) (refused 13)
    ∷ row (80 ∷ 52 ∷ 10 ∷ 48 ∷ 32 ∷ 49 ∷ 10 ∷ []) (refused 1)
    ∷ row (raw_3_2 ++ 255 ∷ []) (refused 14)
    ∷ []

-- Starts with a fault that shows: "4"; P4, "X"; P4, LF, "0 1", LF.
abbrev pub other_start : List ℕ
other_start = 52 ∷ []

abbrev pub foreign_header : List ℕ
foreign_header = 80 ∷ 52 ∷ 88 ∷ []

abbrev pub no_width : List ℕ
no_width = 80 ∷ 52 ∷ 10 ∷ 48 ∷ 32 ∷ 49 ∷ 10 ∷ []

-- P4 and blanks, so that these are as many bytes as a map may have.
unfoldable pub blanks : List ℕ
blanks = 80 ∷ 52 ∷ replicate (most_bytes - 2) 32

unfoldable pub long_rows : List Row
long_rows =
    -- A header cut short is 13 where the input ends, and too long where it goes on.
    row blanks (refused 13)
    ∷ row (blanks ++ 32 ∷ []) too_long
    -- A fault that shows is given by its number however long the input.
    ∷ row (other_start ++ blanks) (refused 12)
    ∷ row (foreign_header ++ blanks) (refused 13)
    ∷ row (no_width ++ blanks) (refused 1)
    -- And a map that ends is one.
    ∷ row (one_map ++ blanks) (a_map 8 1 one_bits blanks)
    ∷ []

unfoldable pub table : List Row
table = small_rows ++ long_rows
