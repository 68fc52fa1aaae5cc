-- What the parts of writing and reading a picture promise.
use Rattle.std.specs.Prelude.{◌≡◌, List, [], ◌∷◌, ◌++◌, ℕ, ◌*◌, ◌<◌, ◌≤◌, length, drop, Result, Ok, Err}
use Rattle.std.proofs.Math.Decide.{ℕ_discrete}
use Rattle.field.specs.Map.{Sides, old_largest}
use Rattle.field.specs.Refusals.{bad_size, bad_sheet, short_raster, long_raster, bad_largest, number_of}
use Rattle.field.specs.declared.Size.{Size}
use Rattle.field.specs.declared.refusals.Refusal.{Refusal}
use Rattle.field.specs.declared.refusals.Refusal.TheVariants.{ShortOutput}
use Rattle.sheets.specs.Promise.{Of}
use Rattle.calls.specs.Rule.{Rule, rule}
use Rattle.mapfile.specs.HeaderWorking.{pick}
use Rattle.picturefile.specs.declared.Depth.{Depth}
use Rattle.picturefile.specs.declared.Depth.TheVariants.{OneByte, TwoBytes}
use Rattle.picturefile.specs.Depths.{largest_of, bytes_of}
use Rattle.picturefile.specs.Picture.{Begins, PictureFault}
use Rattle.picturefile.specs.Written.{PictureWritten}

-- Writing a sheet of the map's size: the whole file is put, or the output is too short for it.
pub data Puts (w h : ℕ) (sheet out out' : List ℕ) (r : Result ℕ Refusal) : Type 0 where
  too_short : (file : List ℕ) → PictureWritten w h sheet file → length out < length file → out' ≡ out → r ≡ Err ShortOutput → Puts w h sheet out out' r
  whole : (file : List ℕ) → PictureWritten w h sheet file → length file ≤ length out → out' ≡ file ++ drop (length file) out → r ≡ Ok (length file)
      → Puts w h sheet out out' r

-- All is as it must be: the size and the kind are those that the header names, the sheet has as
-- many numbers and the raster as many bytes.
pub record Sound (w h largest lent left : ℕ) (map : Size) (depth : Depth) : Type 0 where
  pub of : Of w h map
  pub kind : largest ≡ largest_of depth
  pub size : lent ≡ h * w
  pub whole : left ≡ h * w * bytes_of depth

-- What a header's numbers and the two lengths tell of a file: its fault, or that there is none.
abbrev pub Judged : ℕ → ℕ → ℕ → ℕ → ℕ → Result (Size × Depth) Refusal → Type 0
Judged w h largest lent left (Ok (map, depth)) = Sound w h largest lent left map depth
Judged w h largest lent left (Err r) =
    (file body : List ℕ) → Begins file w h largest body → length body ≡ left → PictureFault file lent (number_of r)

-- A largest value is that of a kind of picture.
pub record Known (largest : ℕ) : Type 0 where
  pub depth : Depth
  pub is : largest ≡ largest_of depth

-- The kind, of a largest value that is known.
unfoldable pub depth_of : ℕ → Depth
depth_of largest = pick (ℕ_discrete largest old_largest) OneByte TwoBytes

-- The rows of reading that numbers alone tell, in the order of the request: of any numbers, also of
-- those that no header has.
abbrev pub picture_judged : ℕ → ℕ → ℕ → ℕ → ℕ → List Rule
picture_judged w h largest lent left =
    rule bad_size (¬ Sides w h)
    ∷ rule bad_largest (¬ Known largest)
    ∷ rule bad_sheet (¬ (lent ≡ h * w))
    ∷ rule short_raster (left < h * w * bytes_of (depth_of largest))
    ∷ rule long_raster (h * w * bytes_of (depth_of largest) < left)
    ∷ []
