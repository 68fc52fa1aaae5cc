-- What writing gives, "P5", LF, width, space, height, LF, "65535", LF, two bytes a crossing, north
-- row first; and what it gave before Req 07, with "255" and one byte a crossing.
use Rattle.std.specs.Prelude.{◌≡◌, List, ◌∷◌, ◌++◌, ℕ, ◌*◌, ◌<◌, length, get_or}
use Rattle.field.specs.Map.{largest_value, old_largest}
use Rattle.mapfile.specs.Turned.{Turned}
use Rattle.mapfile.specs.Written.{Plain}
use Rattle.picturefile.specs.declared.Depth.TheVariants.{TwoBytes}
use Rattle.picturefile.specs.Depths.{Renewed, Drawn}
use Rattle.picturefile.specs.Picture.{picture_letters}

-- The letters, width, height and largest value with no leading zeros, each followed by one blank
-- byte, and the rows.
pub record Filed (w h value : ℕ) (rows file : List ℕ) : Type 0 where
  pub width : List ℕ
  pub height : List ℕ
  pub largest : List ℕ
  pub width_is : Plain w width
  pub height_is : Plain h height
  pub largest_is : Plain value largest
  pub is : file ≡ picture_letters ++ 10 ∷ width ++ 32 ∷ height ++ 10 ∷ largest ++ 10 ∷ rows

pub record PictureWritten (w h : ℕ) (sheet file : List ℕ) : Type 0 where
  pub rows : List ℕ
  pub bytes : (i : ℕ) → get_or rows i 0 < 256
  pub drawn : Drawn TwoBytes w h rows sheet
  pub filed : Filed w h largest_value rows file

-- An old picture of a sheet of bytes, as Req 03 had it: "255", LF, one byte a crossing, north row
-- first.
pub record OldWritten (w h : ℕ) (sheet file : List ℕ) : Type 0 where
  pub rows : List ℕ
  pub size : length rows ≡ h * w
  pub turned : Turned w h rows sheet
  pub filed : Filed w h old_largest rows file

-- A sheet with the new mark for the old one, and every other number as it is.
pub record SheetRenewed (old sheet : List ℕ) : Type 0 where
  pub size : length sheet ≡ length old
  pub is : (i : ℕ) → i < length old → Renewed (get_or old i 0) (get_or sheet i 0)
