-- A raster of one number a crossing and a sheet of it: the raster has its rows from the north, the
-- sheet by crossing number, from the south.
use Rattle.std.specs.Prelude.{◌≡◌, List, ℕ, ◌*◌, length, get_or}
use Rattle.field.specs.Map.{On, at}
use Rattle.mapfile.specs.File.{raster_place}

-- "The first raster row is the northmost": each crossing of the sheet has what stands at its place
-- in the raster.
pub record Turned (w h : ℕ) (raster sheet : List ℕ) : Type 0 where
  pub size : length sheet ≡ h * w
  pub is : (x y : ℕ) → On w h x y → at sheet w x y ≡ get_or raster (raster_place w h x y) 0
