-- Promise of a depot's four numbers, over a sheet s that marks the closed crossings: whatever is
-- not 0 on it.
use Rattle.std.specs.Prelude.{◌≡◌, List, ℕ, length}
use Rattle.field.specs.declared.Depot.{Depot}
use Rattle.field.specs.declared.Place.{Place}
use Rattle.field.specs.declared.Placing.{Placing}
use Rattle.field.specs.Depots.{depot_x, depot_y, HowPlaced}
use Rattle.field.specs.Workings.Sheet.{Marked}

-- p is the depot's corner.
pub record CornerOf (depot : Depot) (w h : ℕ) (p : Place) : Type 0 where
  pub column : p.x ≡ depot_x depot w
  pub row : p.y ≡ depot_y depot h

-- The four numbers are those of this corner as depot. The sheet worked in keeps its size.
pub record Places (w h : ℕ) (s : List ℕ) (depot : Depot) (g g' : List ℕ) (p : Placing) : Type 0 where
  pub placed : HowPlaced w h (Marked s w h) (depot_x depot w) (depot_y depot h) p
  pub kept : length g' ≡ length g
