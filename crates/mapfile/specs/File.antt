-- When bytes are a map of this width and height with these rocks, and which refusal a file gets
-- otherwise.
use Rattle.std.specs.Prelude.{◌≡◌, List, [], ◌∷◌, ◌++◌, ◌⊎◌, ℕ, zero, suc, ◌+◌, ◌*◌, ◌-◌, ◌/◌, ◌%◌, ◌<◌, length, get_or}
use Rattle.field.specs.declared.Marker.{Marker}
use Rattle.field.specs.Map.{Sides, On, most_markers, tallest}
use Rattle.field.specs.Refusals.{bad_size, bad_letters, bad_header}
use Rattle.mapfile.specs.Header.{Header}
use Rattle.mapfile.specs.Raster.{RawRaster, PlainRaster, RawFault, PlainFault}

-- "The file starts with the two bytes P1 or P4."
abbrev pub plain_letters : List ℕ
plain_letters = 80 ∷ 49 ∷ []

abbrev pub raw_letters : List ℕ
raw_letters = 80 ∷ 52 ∷ []

pub data Format : Type 0 where
  plain raw : Format

abbrev pub letters_of : Format → List ℕ
letters_of plain = plain_letters
letters_of raw = raw_letters

-- The file begins with the letters of this format, and this is what follows them.
abbrev pub Letters : Format → List ℕ → List ℕ → Type 0
Letters f file rest = file ≡ letters_of f ++ rest

abbrev pub Raster : Format → ℕ → ℕ → List ℕ → List ℕ → Type 0
Raster plain w h l bits = PlainRaster w h l bits
Raster raw w h l bits = RawRaster w h l bits

abbrev pub RasterFault : Format → ℕ → ℕ → List ℕ → ℕ → Type 0
RasterFault plain w h l n = PlainFault w h l n
RasterFault raw w h l n = RawFault w h l n

-- A file's beginning: its letters and its header.
pub record Begins (file : List ℕ) (f : Format) (w h : ℕ) (body : List ℕ) : Type 0 where
  pub after : List ℕ
  pub letters : Letters f file after
  pub header : Header (w ∷ h ∷ []) after body

-- The bytes are a map of this width and height, with these bits in raster order.
pub record MapFile (file : List ℕ) (w h : ℕ) (bits : List ℕ) : Type 0 where
  pub format : Format
  pub after : List ℕ
  pub body : List ℕ
  pub letters : Letters format file after
  pub header : Header (w ∷ h ∷ []) after body
  pub sides : Sides w h
  pub raster : Raster format w h body bits

-- The bit of a crossing: the first row is the northmost.
unfoldable pub raster_place : ℕ → ℕ → ℕ → ℕ → ℕ
raster_place w h x y = (h - (y + 1)) * w + x

-- A crossing of the file's map is a rock.
pub record FileRock (w h : ℕ) (bits : List ℕ) (x y : ℕ) : Type 0 where
  pub on : On w h x y
  pub one : get_or bits (raster_place w h x y) 0 ≡ 1

-- "Reading makes markers with ids 1, 2, 3 and on, in raster order": from the k-th bit on, the next
-- id being n. "Markers read from a map file get 65,535" (document 02, Req 08).
unfoldable pub markers_from : ℕ → ℕ → ℕ → ℕ → List ℕ → List Marker
markers_from w h n k [] = []
markers_from w h n k (zero ∷ bits) = markers_from w h n (k + 1) bits
markers_from w h n k (suc b ∷ bits) = record { id = n; x = k % w; y = h - (k / w + 1); height = tallest } ∷ markers_from w h (n + 1) (k + 1) bits

unfoldable pub markers_of : ℕ → ℕ → List ℕ → List Marker
markers_of w h bits = markers_from w h 1 0 bits

-- The refusals of a file that is not a map, in document 01's order: "12, 13 in the header, 1, then
-- the raster: at the first fault met 13, 14 or 15".
pub data FileFault (file : List ℕ) (n : ℕ) : Type 0 where
  no_letters : ((f : Format) (rest : List ℕ) → ¬ Letters f file rest) → n ≡ bad_letters → FileFault file n
  no_header : (f : Format) (after : List ℕ) → Letters f file after → ((w h : ℕ) (body : List ℕ) → ¬ Header (w ∷ h ∷ []) after body)
      → n ≡ bad_header → FileFault file n
  no_sides : (f : Format) (after body : List ℕ) (w h : ℕ) → Letters f file after → Header (w ∷ h ∷ []) after body → ¬ Sides w h
      → n ≡ bad_size → FileFault file n
  no_raster : (f : Format) (after body : List ℕ) (w h : ℕ) → Letters f file after → Header (w ∷ h ∷ []) after body → Sides w h
      → RasterFault f w h body n → FileFault file n

-- "then 7": the file is a map, but its rocks would pass the list lent or the limit.
pub record NoSlot (file : List ℕ) (lent : ℕ) : Type 0 where
  pub w : ℕ
  pub h : ℕ
  pub bits : List ℕ
  pub map : MapFile file w h bits
  pub many : (lent < length (markers_of w h bits)) ⊎ (most_markers < length (markers_of w h bits))
