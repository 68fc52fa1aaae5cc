-- Small pictures with their bytes as one table of rows, and what it means that a row holds, said
-- with the meanings. That every row holds is proved in Settled.
use Rattle.std.specs.Prelude.{◌≡◌, List, [], ◌∷◌, ◌++◌, ◌↔◌, ℕ}
use Rattle.picturefile.specs.Picture.{PictureFile, PictureFault}
use Rattle.picturefile.specs.Written.{PictureWritten}

-- One row's claim.
pub data Row : Type 0 where
  -- the bytes are a picture of this width and height, with this sheet
  is_picture : (file : List ℕ) (w h : ℕ) (sheet : List ℕ) → Row
  -- for a sheet of so many numbers the file is refused with this number
  has_fault : (file : List ℕ) (lent n : ℕ) → Row
  -- writing this sheet gives these bytes and no others
  is_written : (w h : ℕ) (sheet file : List ℕ) → Row

-- What a row claims, in the words of the meanings.
abbrev pub Holds : Row → Type 0
Holds (is_picture file w h sheet) = PictureFile file w h sheet
Holds (has_fault file lent n) = PictureFault file lent n
Holds (is_written w h sheet file) = (l : List ℕ) → PictureWritten w h sheet l ↔ l ≡ file

-- P5, LF, "2 3", LF, and after it "65535", LF, or another largest value: "255", LF for an old
-- picture.
abbrev pub picture_2_3 : List ℕ → List ℕ
picture_2_3 rest = 80 ∷ 53 ∷ 10 ∷ 50 ∷ 32 ∷ 51 ∷ 10 ∷ rest

abbrev pub P5-2-3 : List ℕ
P5-2-3 = picture_2_3 (54 ∷ 53 ∷ 53 ∷ 51 ∷ 53 ∷ 10 ∷ [])

abbrev pub old_2_3 : List ℕ
old_2_3 = picture_2_3 (50 ∷ 53 ∷ 53 ∷ 10 ∷ [])

-- A sheet by crossing number, and the same from the north, two bytes a crossing.
abbrev pub six : List ℕ
six = 0 ∷ 1 ∷ 2 ∷ 255 ∷ 772 ∷ 65535 ∷ []

abbrev pub six_north : List ℕ
six_north = 3 ∷ 4 ∷ 255 ∷ 255 ∷ 0 ∷ 2 ∷ 0 ∷ 255 ∷ 0 ∷ 0 ∷ 0 ∷ 1 ∷ []

-- One byte a crossing from the north, and the sheet that is read.
abbrev pub old_north : List ℕ
old_north = 63 ∷ 255 ∷ 2 ∷ 254 ∷ 0 ∷ 1 ∷ []

abbrev pub old_six : List ℕ
old_six = 0 ∷ 1 ∷ 2 ∷ 254 ∷ 63 ∷ 65535 ∷ []

-- The table. Each row has above it the sentence, or what of it, that it shows.
unfoldable pub table : List Row
table =
    -- "two bytes a crossing, high byte first", "north row first"
    is_picture (P5-2-3 ++ six_north) 2 3 six
    -- "Old one-byte sheets are still read, their 255 becoming 65,535."
    ∷ is_picture (old_2_3 ++ old_north) 2 3 old_six
    -- "with the header rules of our maps": P5, space, "#a", CR, "02", TAB, "3 065535", LF, and the
    -- same with "0255".
    ∷ is_picture (80 ∷ 53 ∷ 32 ∷ 35 ∷ 97 ∷ 13 ∷ 48 ∷ 50 ∷ 9 ∷ 51 ∷ 32 ∷ 48 ∷ 54 ∷ 53 ∷ 53 ∷ 51 ∷ 53 ∷ 10 ∷ six_north) 2 3 six
    ∷ is_picture (80 ∷ 53 ∷ 32 ∷ 35 ∷ 97 ∷ 13 ∷ 48 ∷ 50 ∷ 9 ∷ 51 ∷ 32 ∷ 48 ∷ 50 ∷ 53 ∷ 53 ∷ 10 ∷ old_north) 2 3 old_six
    -- "In this reader 12 is given for any first two bytes but P5": P2, P4, P6, P5 after another
    -- byte, "P", nothing.
    ∷ has_fault (80 ∷ 50 ∷ 10 ∷ 50 ∷ 32 ∷ 51 ∷ 10 ∷ 50 ∷ 53 ∷ 53 ∷ 10 ∷ old_north) 6 12
    ∷ has_fault (80 ∷ 52 ∷ 10 ∷ 50 ∷ 32 ∷ 51 ∷ 10 ∷ 50 ∷ 53 ∷ 53 ∷ 10 ∷ old_north) 6 12
    ∷ has_fault (80 ∷ 54 ∷ 10 ∷ 50 ∷ 32 ∷ 51 ∷ 10 ∷ 50 ∷ 53 ∷ 53 ∷ 10 ∷ old_north) 6 12
    ∷ has_fault (32 ∷ P5-2-3 ++ six_north) 6 12
    ∷ has_fault (80 ∷ []) 6 12
    ∷ has_fault [] 6 12
    -- 13: P5 alone; two numbers; ten digits; a comment after the largest value; no blank after it.
    ∷ has_fault (80 ∷ 53 ∷ []) 6 13
    ∷ has_fault (picture_2_3 []) 6 13
    ∷ has_fault (picture_2_3 (48 ∷ 48 ∷ 48 ∷ 48 ∷ 48 ∷ 54 ∷ 53 ∷ 53 ∷ 51 ∷ 53 ∷ 10 ∷ six_north)) 6 13
    ∷ has_fault (picture_2_3 (54 ∷ 53 ∷ 53 ∷ 51 ∷ 53 ∷ 35 ∷ 10 ∷ six_north)) 6 13
    ∷ has_fault (picture_2_3 (54 ∷ 53 ∷ 53 ∷ 51 ∷ 53 ∷ [])) 6 13
    -- 1, before 18 and 2: sides of 0 and 257, a largest value of 254, no sheet.
    ∷ has_fault (80 ∷ 53 ∷ 10 ∷ 48 ∷ 32 ∷ 51 ∷ 10 ∷ 50 ∷ 53 ∷ 53 ∷ 10 ∷ []) 0 1
    ∷ has_fault (80 ∷ 53 ∷ 10 ∷ 50 ∷ 32 ∷ 50 ∷ 53 ∷ 55 ∷ 10 ∷ 50 ∷ 53 ∷ 52 ∷ 10 ∷ []) 0 1
    -- "18 refuses a largest value other than 255 or 65535", before 2: 0, 254, 256, 65534, 65536.
    ∷ has_fault (picture_2_3 (48 ∷ 10 ∷ old_north)) 6 18
    ∷ has_fault (picture_2_3 (50 ∷ 53 ∷ 52 ∷ 10 ∷ old_north)) 0 18
    ∷ has_fault (picture_2_3 (50 ∷ 53 ∷ 54 ∷ 10 ∷ six_north)) 6 18
    ∷ has_fault (picture_2_3 (54 ∷ 53 ∷ 53 ∷ 51 ∷ 52 ∷ 10 ∷ six_north)) 6 18
    ∷ has_fault (picture_2_3 (54 ∷ 53 ∷ 53 ∷ 51 ∷ 54 ∷ 10 ∷ six_north)) 6 18
    -- "2 counts sixteen-bit numbers in a distance sheet": one short, one more, none, and as many as
    -- the raster has bytes; of an old picture; of a file cut short.
    ∷ has_fault (P5-2-3 ++ six_north) 5 2
    ∷ has_fault (P5-2-3 ++ six_north) 7 2
    ∷ has_fault (P5-2-3 ++ six_north) 0 2
    ∷ has_fault (P5-2-3 ++ six_north) 12 2
    ∷ has_fault (old_2_3 ++ old_north) 3 2
    ∷ has_fault P5-2-3 5 2
    -- "14": a raster one byte short, of either kind; one byte a crossing where two are said; none.
    ∷ has_fault (P5-2-3 ++ 3 ∷ 4 ∷ 255 ∷ 255 ∷ 0 ∷ 2 ∷ 0 ∷ 255 ∷ 0 ∷ 0 ∷ 0 ∷ []) 6 14
    ∷ has_fault (old_2_3 ++ 63 ∷ 255 ∷ 2 ∷ 254 ∷ 0 ∷ []) 6 14
    ∷ has_fault (P5-2-3 ++ old_north) 6 14
    ∷ has_fault P5-2-3 6 14
    -- "15": one byte more, of either kind; two bytes a crossing where one is said.
    ∷ has_fault (P5-2-3 ++ six_north ++ 10 ∷ []) 6 15
    ∷ has_fault (old_2_3 ++ old_north ++ 10 ∷ []) 6 15
    ∷ has_fault (old_2_3 ++ six_north) 6 15
    -- "PGM sheets are written with largest value 65535, two bytes a crossing, high byte first"
    ∷ is_written 2 3 six (P5-2-3 ++ six_north)
    ∷ is_written 10 1 (65535 ∷ 0 ∷ 0 ∷ 0 ∷ 0 ∷ 0 ∷ 0 ∷ 0 ∷ 0 ∷ 9 ∷ [])
    (80 ∷ 53 ∷ 10 ∷ 49 ∷ 48 ∷ 32 ∷ 49 ∷ 10 ∷ 54 ∷ 53 ∷ 53 ∷ 51 ∷ 53 ∷ 10 ∷ 255 ∷ 255 ∷ 0 ∷ 0 ∷ 0 ∷ 0 ∷ 0 ∷ 0 ∷ 0 ∷ 0 ∷ 0 ∷ 0 ∷ 0 ∷ 0 ∷ 0 ∷ 0 ∷ 0 ∷ 0 ∷ 0 ∷ 9 ∷ [])
    ∷ []
