-- Small map files with their bytes as one table of rows, and what it means that a row holds, said
-- with the meanings. That every row holds is proved in Settled.
use Rattle.std.specs.Prelude.{◌≡◌, List, [], ◌∷◌, ◌++◌, ◌↔◌, ℕ}
use Rattle.field.specs.Table.{Place, place, markers_on, RocksOn}
use Rattle.mapfile.specs.File.{MapFile, FileRock, FileFault, markers_of}
use Rattle.mapfile.specs.Written.{Written}

-- One row's claim.
pub data Row : Type 0 where
  -- the bytes are a map of this width and height with these bits; its rocks are these, in raster
  -- order
  is_map : (file : List ℕ) (w h : ℕ) (bits : List ℕ) (rocks : List Place) → Row
  -- the file is refused with this number
  has_fault : (file : List ℕ) (n : ℕ) → Row
  -- writing these rocks gives these bytes and no others
  is_written : (w h : ℕ) (rocks : List Place) (file : List ℕ) → Row

-- What a row claims, in the words of the meanings.
abbrev pub Holds : Row → Type 0
Holds (is_map file w h bits rocks) =
    MapFile file w h bits × (markers_of w h bits ≡ markers_on rocks) × ((x y : ℕ) → FileRock w h bits x y ↔ RocksOn rocks x y)
Holds (has_fault file n) = FileFault file n
Holds (is_written w h rocks file) = (l : List ℕ) → Written w h (RocksOn rocks) l ↔ l ≡ file

-- P1, LF, "3 2", LF; P4, LF, "3 2", LF; P4, LF, a width of one digit or two, " 1", LF.
abbrev pub plain_3_2 : List ℕ
plain_3_2 = 80 ∷ 49 ∷ 10 ∷ 51 ∷ 32 ∷ 50 ∷ 10 ∷ []

abbrev pub raw_3_2 : List ℕ
raw_3_2 = 80 ∷ 52 ∷ 10 ∷ 51 ∷ 32 ∷ 50 ∷ 10 ∷ []

abbrev pub raw_8_1 : List ℕ
raw_8_1 = 80 ∷ 52 ∷ 10 ∷ 56 ∷ 32 ∷ 49 ∷ 10 ∷ []

abbrev pub raw_9_1 : List ℕ
raw_9_1 = 80 ∷ 52 ∷ 10 ∷ 57 ∷ 32 ∷ 49 ∷ 10 ∷ []

abbrev pub raw_15_1 : List ℕ
raw_15_1 = 80 ∷ 52 ∷ 10 ∷ 49 ∷ 53 ∷ 32 ∷ 49 ∷ 10 ∷ []

-- The rocks of the first map: the west one of the north row, the east one of the south row.
abbrev pub two_rocks : List Place
two_rocks = place 0 1 ∷ place 2 0 ∷ []

abbrev pub two_bits : List ℕ
two_bits = 1 ∷ 0 ∷ 0 ∷ 0 ∷ 0 ∷ 1 ∷ []

-- The table. Each row has above it the sentence, or what of it, that it shows, and where it helps
-- the bytes as text.
unfoldable pub table : List Row
table =
    -- "The first raster row is the northmost." "P1: digits 0 and 1, blanks allowed anywhere before,
    -- between and after": "100001".
    is_map (plain_3_2 ++ 49 ∷ 48 ∷ 48 ∷ 48 ∷ 48 ∷ 49 ∷ []) 3 2 two_bits two_rocks
    -- " 1 0", TAB, "0", LF, "00", CR, "1", LF
    ∷ is_map (plain_3_2 ++ 32 ∷ 49 ∷ 32 ∷ 48 ∷ 9 ∷ 48 ∷ 10 ∷ 48 ∷ 48 ∷ 13 ∷ 49 ∷ 10 ∷ []) 3 2 two_bits two_rocks
    -- "each row is packed eight crossings to a byte, highest bit westmost, 1 a rock. Pad bits at a
    -- row's end are ignored": none set, all set.
    ∷ is_map (raw_3_2 ++ 0b10000000 ∷ 0b00100000 ∷ []) 3 2 two_bits two_rocks
    ∷ is_map (raw_3_2 ++ 0b10011111 ∷ 0b00111111 ∷ []) 3 2 two_bits two_rocks
    -- Rows of 8, 9 and 15 crossings.
    ∷ is_map (raw_8_1 ++ 0b10000001 ∷ []) 8 1 (1 ∷ 0 ∷ 0 ∷ 0 ∷ 0 ∷ 0 ∷ 0 ∷ 1 ∷ []) (place 0 0 ∷ place 7 0 ∷ [])
    ∷ is_map (raw_9_1 ++ 0b00000001 ∷ 0b11111111 ∷ []) 9 1 (0 ∷ 0 ∷ 0 ∷ 0 ∷ 0 ∷ 0 ∷ 0 ∷ 1 ∷ 1 ∷ []) (place 7 0 ∷ place 8 0 ∷ [])
    ∷ is_map (raw_15_1 ++ 0b01000000 ∷ 0b00000011 ∷ []) 15 1
    (0 ∷ 1 ∷ 0 ∷ 0 ∷ 0 ∷ 0 ∷ 0 ∷ 0 ∷ 0 ∷ 0 ∷ 0 ∷ 0 ∷ 0 ∷ 0 ∷ 1 ∷ []) (place 1 0 ∷ place 14 0 ∷ [])
    -- A map without rocks.
    ∷ is_map (raw_8_1 ++ 0 ∷ []) 8 1 (0 ∷ 0 ∷ 0 ∷ 0 ∷ 0 ∷ 0 ∷ 0 ∷ 0 ∷ []) []
    -- "a comment runs from # through the next CR or LF, which belongs to it": P4, space, "#a", CR,
    -- "8 1", LF; with LF.
    ∷ is_map (80 ∷ 52 ∷ 32 ∷ 35 ∷ 97 ∷ 13 ∷ 56 ∷ 32 ∷ 49 ∷ 10 ∷ 1 ∷ []) 8 1 (0 ∷ 0 ∷ 0 ∷ 0 ∷ 0 ∷ 0 ∷ 0 ∷ 1 ∷ []) (place 7 0 ∷ [])
    ∷ is_map (80 ∷ 52 ∷ 32 ∷ 35 ∷ 97 ∷ 10 ∷ 56 ∷ 32 ∷ 49 ∷ 10 ∷ 1 ∷ []) 8 1 (0 ∷ 0 ∷ 0 ∷ 0 ∷ 0 ∷ 0 ∷ 0 ∷ 1 ∷ []) (place 7 0 ∷ [])
    -- "blanks and comments may follow one another freely": P4, "##", LF, "#", LF, TAB, "8", "#",
    -- CR, space, "1", LF.
    ∷ is_map (80 ∷ 52 ∷ 35 ∷ 35 ∷ 10 ∷ 35 ∷ 10 ∷ 9 ∷ 56 ∷ 35 ∷ 13 ∷ 32 ∷ 49 ∷ 10 ∷ 1 ∷ []) 8 1
    (0 ∷ 0 ∷ 0 ∷ 0 ∷ 0 ∷ 0 ∷ 0 ∷ 1 ∷ []) (place 7 0 ∷ [])
    -- "at least one of them a blank": P4, "#", LF, "8 1", LF, and P4, "8 1", LF.
    ∷ has_fault (80 ∷ 52 ∷ 35 ∷ 10 ∷ 56 ∷ 32 ∷ 49 ∷ 10 ∷ 1 ∷ []) 13
    ∷ has_fault (80 ∷ 52 ∷ 56 ∷ 32 ∷ 49 ∷ 10 ∷ 1 ∷ []) 13
    -- "A number is 1 to 9 decimal digits, leading zeros allowed": P4, LF, "000000008 1", LF; a
    -- tenth digit.
    ∷ is_map (80 ∷ 52 ∷ 10 ∷ 48 ∷ 48 ∷ 48 ∷ 48 ∷ 48 ∷ 48 ∷ 48 ∷ 48 ∷ 56 ∷ 32 ∷ 49 ∷ 10 ∷ 1 ∷ []) 8 1
    (0 ∷ 0 ∷ 0 ∷ 0 ∷ 0 ∷ 0 ∷ 0 ∷ 1 ∷ []) (place 7 0 ∷ [])
    ∷ has_fault (80 ∷ 52 ∷ 10 ∷ 48 ∷ 48 ∷ 48 ∷ 48 ∷ 48 ∷ 48 ∷ 48 ∷ 48 ∷ 48 ∷ 56 ∷ 32 ∷ 49 ∷ 10 ∷ 1 ∷ []) 13
    -- "exactly one blank byte": none; in P4 a second is the raster's first byte, LF being
    -- 0b00001010.
    ∷ has_fault (80 ∷ 52 ∷ 10 ∷ 56 ∷ 32 ∷ 49 ∷ []) 13
    ∷ has_fault (80 ∷ 52 ∷ 10 ∷ 56 ∷ 32 ∷ 49 ∷ 35 ∷ 10 ∷ 1 ∷ []) 13
    ∷ is_map (raw_8_1 ++ 10 ∷ []) 8 1 (0 ∷ 0 ∷ 0 ∷ 0 ∷ 1 ∷ 0 ∷ 1 ∷ 0 ∷ []) (place 4 0 ∷ place 6 0 ∷ [])
    -- 12: "first two bytes are neither P1 nor P4, or there are fewer than two". P5, "4P", "P",
    -- nothing.
    ∷ has_fault (80 ∷ 53 ∷ 10 ∷ 56 ∷ 32 ∷ 49 ∷ 10 ∷ 1 ∷ []) 12
    ∷ has_fault (52 ∷ 80 ∷ []) 12
    ∷ has_fault (80 ∷ []) 12
    ∷ has_fault [] 12
    -- 13: "header against the rules or cut short". P4 alone, P4, LF, "8"; "-8 1".
    ∷ has_fault (80 ∷ 52 ∷ []) 13
    ∷ has_fault (80 ∷ 52 ∷ 10 ∷ 56 ∷ []) 13
    ∷ has_fault (80 ∷ 52 ∷ 10 ∷ 45 ∷ 56 ∷ 32 ∷ 49 ∷ 10 ∷ 1 ∷ []) 13
    -- "13 in the header, 1, then the raster": sides of 0 and 257 before a raster cut short; no last
    -- blank before a side of 0.
    ∷ has_fault (80 ∷ 52 ∷ 10 ∷ 48 ∷ 32 ∷ 49 ∷ 10 ∷ []) 1
    ∷ has_fault (80 ∷ 52 ∷ 10 ∷ 56 ∷ 32 ∷ 50 ∷ 53 ∷ 55 ∷ 10 ∷ []) 1
    ∷ has_fault (80 ∷ 52 ∷ 10 ∷ 48 ∷ 32 ∷ 49 ∷ []) 13
    ∷ has_fault (80 ∷ 49 ∷ 10 ∷ 48 ∷ 32 ∷ 49 ∷ 10 ∷ 50 ∷ []) 1
    -- 14: "raster ends early"; 15: "bytes after the raster".
    ∷ has_fault raw_3_2 14
    ∷ has_fault (raw_3_2 ++ 255 ∷ []) 14
    ∷ has_fault (raw_3_2 ++ 128 ∷ 32 ∷ 10 ∷ []) 15
    ∷ has_fault (raw_9_1 ++ 1 ∷ []) 14
    ∷ has_fault (plain_3_2 ++ 49 ∷ 48 ∷ 48 ∷ 48 ∷ 48 ∷ []) 14
    ∷ has_fault (plain_3_2 ++ 49 ∷ 48 ∷ 48 ∷ 48 ∷ 48 ∷ 10 ∷ []) 14
    -- "(in P1: other than blanks)"
    ∷ is_map (plain_3_2 ++ 49 ∷ 48 ∷ 48 ∷ 48 ∷ 48 ∷ 49 ∷ 32 ∷ 9 ∷ 13 ∷ 10 ∷ []) 3 2 two_bits two_rocks
    ∷ has_fault (plain_3_2 ++ 49 ∷ 48 ∷ 48 ∷ 48 ∷ 48 ∷ 49 ∷ 10 ∷ 48 ∷ []) 15
    ∷ has_fault (plain_3_2 ++ 49 ∷ 48 ∷ 48 ∷ 48 ∷ 48 ∷ 49 ∷ 35 ∷ []) 15
    -- 13 against 14 and 15: "a P1 raster byte before the last digit that is neither digit 0, 1 nor
    -- blank". "1002" ends early too.
    ∷ has_fault (plain_3_2 ++ 49 ∷ 48 ∷ 48 ∷ 50 ∷ []) 13
    ∷ has_fault (plain_3_2 ++ 49 ∷ 48 ∷ 48 ∷ 35 ∷ 10 ∷ 48 ∷ 48 ∷ 49 ∷ []) 13
    ∷ has_fault (plain_3_2 ++ 49 ∷ 48 ∷ 48 ∷ 48 ∷ 48 ∷ 50 ∷ 49 ∷ 49 ∷ []) 13
    -- "Writing gives "P4", LF, width, space, height, LF and the rows, pad bits 0, with no leading
    -- zeros."
    ∷ is_written 3 2 two_rocks (raw_3_2 ++ 0b10000000 ∷ 0b00100000 ∷ [])
    ∷ is_written 8 1 (place 0 0 ∷ place 7 0 ∷ []) (raw_8_1 ++ 0b10000001 ∷ [])
    ∷ is_written 9 1 (place 7 0 ∷ place 8 0 ∷ []) (raw_9_1 ++ 0b00000001 ∷ 0b10000000 ∷ [])
    ∷ is_written 15 1 (place 1 0 ∷ place 14 0 ∷ []) (raw_15_1 ++ 0b01000000 ∷ 0b00000010 ∷ [])
    ∷ is_written 1 10 [] (80 ∷ 52 ∷ 10 ∷ 49 ∷ 32 ∷ 49 ∷ 48 ∷ 10 ∷ 0 ∷ 0 ∷ 0 ∷ 0 ∷ 0 ∷ 0 ∷ 0 ∷ 0 ∷ 0 ∷ 0 ∷ [])
    ∷ []
