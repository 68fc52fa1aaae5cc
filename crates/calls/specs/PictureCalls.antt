-- The promises of the two picture calls: what the answer and every lent byte and number hold, on
-- success and at each refusal. A sheet is a list of sixteen-bit numbers. "nothing is claimed of it
-- against any marker list": no promise here mentions one.
use Rattle.std.specs.Prelude.{◌≡◌, List, [], ◌∷◌, ◌++◌, ℕ, ◌*◌, ◌<◌, length, drop}
use Rattle.field.specs.Map.{Sides}
use Rattle.field.specs.Refusals.{bad_size, bad_sheet, short_output}
use Rattle.picturefile.specs.Picture.{PictureFile, PictureFault}
use Rattle.picturefile.specs.Written.{PictureWritten}
use Rattle.calls.specs.Rules.{Rule, rule, Gives, Misfit}
use Rattle.calls.specs.declared.SheetWritten.{SheetWritten}
use Rattle.calls.specs.declared.SheetRead.{SheetRead}

-- "A refusal returns its number only": zeros stand beside it.
abbrev pub not_written : ℕ → SheetWritten
not_written n = record { refusal = n; bytes = 0 }

abbrev pub not_read : ℕ → SheetRead
not_read n = record { refusal = n; width = 0; height = 0 }

-- 17: "output too short for the whole file"
pub record TooShortForPicture (w h : ℕ) (sheet out : List ℕ) : Type 0 where
  pub file : List ℕ
  pub written : PictureWritten w h sheet file
  pub short : length out < length file

abbrev pub picture_rule : List ℕ → ℕ → ℕ → List ℕ → Rule
picture_rule sheet w h out = rule short_output (TooShortForPicture w h sheet out)

-- The rows that writing a sheet can meet: 1, 2 and 17. "2 counts sixteen-bit numbers in a distance
-- sheet"
abbrev pub write_sheet_table : List ℕ → ℕ → ℕ → List ℕ → List Rule
write_sheet_table sheet w h out =
    rule bad_size (¬ Sides w h) ∷ rule bad_sheet (Misfit w h (sheet ∷ [])) ∷ picture_rule sheet w h out ∷ []

-- The picture stands at the output's front; bytes past its end stay.
pub record PicturePut (w h : ℕ) (sheet out out' : List ℕ) (r : SheetWritten) : Type 0 where
  pub file : List ℕ
  pub written : PictureWritten w h sheet file
  pub counted : r.bytes ≡ length file
  pub is : out' ≡ file ++ drop (length file) out

-- write a sheet: "PGM sheets are written with largest value 65535, two bytes a crossing, high byte
-- first"
pub record WriteSheetCall (sheet : List ℕ) (w h : ℕ) (out out' : List ℕ) (r : SheetWritten) : Type 0 where
  pub given : Gives (write_sheet_table sheet w h out) r.refusal
  pub kept : ¬ (r.refusal ≡ 0) → out' ≡ out
  pub refused : ¬ (r.refusal ≡ 0) → r ≡ not_written r.refusal
  pub done : r.refusal ≡ 0 → PicturePut w h sheet out out' r

-- The file is a picture of this width and height, and the lent sheet, which has its size, is its
-- sheet now.
pub record PictureRead (file sheet sheet' : List ℕ) (r : SheetRead) : Type 0 where
  pub picture : PictureFile file r.width r.height sheet'
  pub size : length sheet ≡ r.height * r.width

-- read a sheet: "Read such files back too", and "Old one-byte sheets are still read". A refusal is
-- the file's fault for a sheet of that length, which orders 12, 13, 1, 18, 2, 14 and 15.
pub record ReadSheetCall (file sheet sheet' : List ℕ) (r : SheetRead) : Type 0 where
  pub given : ¬ (r.refusal ≡ 0) → PictureFault file (length sheet) r.refusal
  pub kept : ¬ (r.refusal ≡ 0) → sheet' ≡ sheet
  pub refused : ¬ (r.refusal ≡ 0) → r ≡ not_read r.refusal
  pub done : r.refusal ≡ 0 → PictureRead file sheet sheet' r
