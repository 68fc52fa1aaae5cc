-- What the parts of reading promise once a raster is read.
use Rattle.std.specs.Prelude.{◌≡◌, Result, Ok, Err, List, ◌⊎◌, ℕ, ◌*◌, ◌<◌, ◌≤◌, length, drop}
use Rattle.field.specs.declared.Reading.{Reading}
use Rattle.field.specs.declared.Size.{Size}
use Rattle.field.specs.declared.refusals.Refusal.{Refusal}
use Rattle.field.specs.Map.{side, most_markers}
use Rattle.field.specs.Refusals.{no_slot, number_of}
use Rattle.mapfile.specs.File.{Format, Letters, Raster, RasterFault, markers_of}
use Rattle.raster.specs.RasterParts.{RasterIn}

-- The rocks pass neither the list lent nor the limit.
pub record HasRoom (rocks lent : ℕ) : Type 0 where
  pub room : rocks ≤ lent
  pub few : rocks ≤ most_markers

-- What reading a raster finds: its bits; or its first fault, or that its rocks find no slot: "at
-- the first fault met 13, 14 or 15, then 7".
pub record RasterTaken (f : Format) (m : Size) (body : List ℕ) (lent : ℕ) (found : Reading) (out : List ℕ) : Type 0 where
  pub map : found.map ≡ m
  pub raster : RasterIn f m.w m.h body out found.rocks
  pub room : HasRoom found.rocks lent

pub record RasterOver (f : Format) (w h : ℕ) (body : List ℕ) (lent : ℕ) : Type 0 where
  pub bits : List ℕ
  pub raster : Raster f w h body bits
  pub many : (lent < length (markers_of w h bits)) ⊎ (most_markers < length (markers_of w h bits))

abbrev pub RasterReads : Format → Size → List ℕ → ℕ → List ℕ → Result Reading Refusal → Type 0
RasterReads f m body lent out (Ok found) = RasterTaken f m body lent found out
RasterReads f m body lent out (Err r) = RasterFault f m.w m.h body (number_of r) ⊎ (RasterOver f m.w m.h body lent × (number_of r ≡ no_slot))

-- What reading the rest of a file asks: that it begins with the format's letters, and a byte for
-- each crossing of the largest map.
pub record MayReadMap (f : Format) (src out : List ℕ) : Type 0 where
  pub letters : Letters f src (drop 2 src)
  pub room : side * side ≤ length out
