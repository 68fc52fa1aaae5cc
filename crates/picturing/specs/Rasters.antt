-- Rasters as the code reads and writes them, computed. That these are the grammar's stands in
-- RasterLaws.
use Rattle.std.specs.Prelude.{◌≡◌, List, [], ◌∷◌, ℕ, ◌+◌, ◌*◌, ◌-◌, ◌/◌, ◌%◌, ◌≤◌, length, get_or, drop}
use Rattle.packing.specs.Packing.{pieces}
use Rattle.picturefile.specs.declared.Depth.{Depth}
use Rattle.picturefile.specs.Depths.{bytes_of}
use Rattle.picturefile.specs.Working.{sample_of}

-- What reading asks: just the bytes of the map's crossings, and a sheet of its size.
pub record MayRead (d : Depth) (w h : ℕ) (raster sheet : List ℕ) : Type 0 where
  pub whole : length raster ≡ h * w * bytes_of d
  pub size : length sheet ≡ h * w

-- The numbers begin with a whole row, and the part of the raster has just the room for it.
pub record RowWritten (w : ℕ) (sheet part : List ℕ) : Type 0 where
  pub whole : w ≤ length sheet
  pub room : length part ≡ w * 2

-- What writing asks: a sheet of the map's size, and just the room for its raster.
pub record MayWrite (w h : ℕ) (sheet out : List ℕ) : Type 0 where
  pub size : length sheet ≡ h * w
  pub room : length out ≡ h * (w * 2)

-- The first n numbers of a raster, and those of row y of the map.
unfoldable pub numbers_of : Depth → List ℕ → ℕ → List ℕ
numbers_of d raster n = pieces n (λ i. sample_of d raster i ∷ [])

unfoldable pub row_of : Depth → List ℕ → ℕ → ℕ → ℕ → List ℕ
row_of d raster w h y = numbers_of d (drop ((h - (y + 1)) * (w * bytes_of d)) raster) w

-- The first n numbers of a sheet in two bytes each, and raster row r of the map.
unfoldable pub bytes_from : List ℕ → ℕ → List ℕ
bytes_from sheet n = pieces n (λ i. get_or sheet i 0 / 256 ∷ get_or sheet i 0 % 256 ∷ [])

unfoldable pub raster_row : List ℕ → ℕ → ℕ → ℕ → List ℕ
raster_row sheet w h r = bytes_from (drop ((h - (r + 1)) * w) sheet) w

-- The rows, the northmost first.
unfoldable pub raster_of : List ℕ → ℕ → ℕ → List ℕ
raster_of sheet w h = pieces h (raster_row sheet w h)
