-- What turning a raster onto a sheet asks. That the raster has its rows from the north and the
-- sheet from the south is `Turned`'s to say.
use Rattle.std.specs.Prelude.{◌≡◌, List, ℕ, ◌+◌, ◌*◌, ◌-◌, ◌≤◌, length, take, drop}

-- What turning asks: a byte for each crossing, and a sheet of the map's size. What follows those
-- bytes is not looked at.
pub record MayTurn (w h : ℕ) (raster sheet : List ℕ) : Type 0 where
  pub whole : h * w ≤ length raster
  pub size : length sheet ≡ h * w

-- The bytes of row y of the map.
unfoldable pub raster_row : List ℕ → ℕ → ℕ → ℕ → List ℕ
raster_row raster w h y = take w (drop ((h - (y + 1)) * w) raster)
