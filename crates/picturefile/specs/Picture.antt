-- When bytes are a picture of this width and height with this sheet, and which refusal a file gets
-- otherwise. "Read such files back too, with the header rules of our maps and the largest value as
-- a third number" (Req 03). A sheet is only numbers: nothing here speaks of markers.
use Rattle.std.specs.Prelude.{◌≡◌, List, [], ◌∷◌, ◌++◌, ℕ, ◌*◌, ◌<◌, length}
use Rattle.field.specs.Map.{Sides}
use Rattle.field.specs.Refusals.{bad_size, bad_sheet, bad_letters, bad_header, short_raster, long_raster, bad_largest}
use Rattle.mapfile.specs.Header.{Header}
use Rattle.picturefile.specs.declared.Depth.{Depth}
use Rattle.picturefile.specs.Depths.{largest_of, bytes_of, Drawn}

-- "P5"
abbrev pub picture_letters : List ℕ
picture_letters = 80 ∷ 53 ∷ []

-- The file begins with the letters and a header of three numbers, and this is what follows them.
pub record Begins (file : List ℕ) (w h largest : ℕ) (body : List ℕ) : Type 0 where
  pub after : List ℕ
  pub letters : file ≡ picture_letters ++ after
  pub header : Header (w ∷ h ∷ largest ∷ []) after body

-- The bytes are a picture of either kind, and the sheet has by crossing number what the raster has
-- from the north.
pub record PictureFile (file : List ℕ) (w h : ℕ) (sheet : List ℕ) : Type 0 where
  pub depth : Depth
  pub body : List ℕ
  pub begins : Begins file w h (largest_of depth) body
  pub sides : Sides w h
  pub drawn : Drawn depth w h body sheet

-- "18 refuses a largest value other than 255 or 65535", "2 counts sixteen-bit numbers in a distance
-- sheet" (Req 07): the sheet that is lent has so many. The order is Req 03's: 18 "given right after
-- 1 and leaving all lent memory unchanged; then 2, 14, 15. In this reader 12 is given for any first
-- two bytes but P5."
pub data PictureFault (file : List ℕ) (lent n : ℕ) : Type 0 where
  no_letters : ((rest : List ℕ) → ¬ (file ≡ picture_letters ++ rest)) → n ≡ bad_letters → PictureFault file lent n
  no_header : (after : List ℕ) → file ≡ picture_letters ++ after
      → ((w h largest : ℕ) (body : List ℕ) → ¬ Header (w ∷ h ∷ largest ∷ []) after body) → n ≡ bad_header → PictureFault file lent n
  no_sides : (w h largest : ℕ) (body : List ℕ) → Begins file w h largest body → ¬ Sides w h → n ≡ bad_size → PictureFault file lent n
  other_largest : (w h largest : ℕ) (body : List ℕ) → Begins file w h largest body → Sides w h → ((d : Depth) → ¬ (largest ≡ largest_of d))
      → n ≡ bad_largest → PictureFault file lent n
  other_sheet : (d : Depth) (w h : ℕ) (body : List ℕ) → Begins file w h (largest_of d) body → Sides w h → ¬ (lent ≡ h * w) → n ≡ bad_sheet
      → PictureFault file lent n
  ends_early : (d : Depth) (w h : ℕ) (body : List ℕ) → Begins file w h (largest_of d) body → Sides w h → lent ≡ h * w
      → length body < h * w * bytes_of d → n ≡ short_raster → PictureFault file lent n
  goes_on : (d : Depth) (w h : ℕ) (body : List ℕ) → Begins file w h (largest_of d) body → Sides w h → lent ≡ h * w
      → h * w * bytes_of d < length body → n ≡ long_raster → PictureFault file lent n
