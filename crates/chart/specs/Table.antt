-- What the program prints for some files, as a table of rows, byte by byte. That every row holds is
-- proved in Settled.
use Rattle.std.specs.Prelude.{List, [], ◌∷◌, ◌++◌, ℕ, replicate}
use Rattle.printing.specs.Settled.{refused_12, refused_long}
use Rattle.chart.specs.Promise.{Charted}

pub record Row : Type 0 where
  pub file : List ℕ
  pub text : List ℕ

-- What a row claims.
abbrev pub Holds : Row → Type 0
Holds r = Charted r.file r.text

pub data EveryRow : List Row → Type 0 where
  none : EveryRow []
  one : {r : Row} {rs : List Row} → Holds r → EveryRow rs → EveryRow (r ∷ rs)

-- "Labelling program, input P1, LF, '4 3', LF, '0010', LF, '0100', LF, '0000', LF."
abbrev pub example_bits : List ℕ
example_bits = 0 ∷ 0 ∷ 1 ∷ 0 ∷ 0 ∷ 1 ∷ 0 ∷ 0 ∷ 0 ∷ 0 ∷ 0 ∷ 0 ∷ []

abbrev pub example_raster : List ℕ
example_raster = 48 ∷ 48 ∷ 49 ∷ 48 ∷ 10 ∷ 48 ∷ 49 ∷ 48 ∷ 48 ∷ 10 ∷ 48 ∷ 48 ∷ 48 ∷ 48 ∷ 10 ∷ []

abbrev pub example_file : List ℕ
example_file = 80 ∷ 49 ∷ 10 ∷ 52 ∷ 32 ∷ 51 ∷ 10 ∷ example_raster

-- "Whole output": '4 3 2 2 1', '.o#.', '.#o.', '....', each with LF after it.
abbrev pub example_text : List ℕ
example_text =
    (52 ∷ 32 ∷ 51 ∷ 32 ∷ 50 ∷ 32 ∷ 50 ∷ 32 ∷ 49 ∷ 10 ∷ [])
    ++ (46 ∷ 111 ∷ 35 ∷ 46 ∷ 10 ∷ [])
    ++ (46 ∷ 35 ∷ 111 ∷ 46 ∷ 10 ∷ [])
    ++ (46 ∷ 46 ∷ 46 ∷ 46 ∷ 10 ∷ [])

-- The map 1 by 1 with a rock: P1, LF, '1 1', LF, '1'. Its text is '1 1 1 0 1' and '#', each with LF
-- after it: 0 has one digit.
abbrev pub rock_file : List ℕ
rock_file = 80 ∷ 49 ∷ 10 ∷ 49 ∷ 32 ∷ 49 ∷ 10 ∷ 49 ∷ []

abbrev pub rock_text : List ℕ
rock_text = (49 ∷ 32 ∷ 49 ∷ 32 ∷ 49 ∷ 32 ∷ 48 ∷ 32 ∷ 49 ∷ 10 ∷ []) ++ (35 ∷ 10 ∷ [])

-- The table. Each row has its sentence above it.
abbrev pub program_table : List Row
program_table =
    -- the labelling program's example
    record { file = example_file; text = example_text }
    -- example 12's map with a rock
    ∷ record { file = rock_file; text = rock_text }
    -- a refusal: no bytes at all, which are "fewer than two"
    ∷ record { file = []; text = refused_12 }
    -- "A program takes at most 65,536 input bytes": so many are taken, here as no map
    ∷ record { file = replicate 65536 48; text = refused_12 }
    -- one more is too long
    ∷ record { file = replicate 65537 48; text = refused_long }
    ∷ []
