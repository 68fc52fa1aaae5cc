-- What the chooser's code does: one choice, and a whole drive written down. Each is said by the
-- working that computes it; the working agrees with the chooser's meaning wherever the sheet is a
-- region sheet.
use Rattle.std.specs.Prelude.{◌≡◌, Bool, true, false, ℕ, ◌+◌, ◌<◌, eqb, ◌⊎◌, List, length, take, drop}
use Rattle.field.specs.Map.{dist}
use Rattle.field.specs.Drives.{HasDrive, RegionSheet}
use Rattle.field.specs.Chooser.{top}
use Rattle.field.specs.Workings.Sheet.{Marked}
use Rattle.field.specs.Workings.Reaching.{east_west_in, north_south_in, chosen_of, drive_of}
use Rattle.drives.specs.declared.chooser.Choice.{Choice}
use Rattle.regions.specs.Promise.{Ends}

-- n is the distance of two places of a map, which is small.
pub record Reckoned (ax ay bx by n : ℕ) : Type 0 where
  pub is : n ≡ dist ax ay bx by
  pub small : n + 1 < 65536

-- Whether the choice is along the row: of two candidates by the state drawn, and else as it must.
abbrev pub row_taken : Bool → Bool → ℕ → Bool
row_taken true true t = eqb (top t) 0
row_taken true false t = true
row_taken false n t = false

-- At (x, y) there is a candidate.
pub record Choosable (w h : ℕ) (g : List ℕ) (dx dy x y : ℕ) : Type 0 where
  pub ends : Ends w h dx dy x y
  pub some : (east_west_in g w h dx x y ≡ true) ⊎ (north_south_in g w h dy x y ≡ true)

-- c is the choice at (x, y) in state z.
pub record Chose (w h : ℕ) (g : List ℕ) (dx dy x y z : ℕ) (c : Choice) : Type 0 where
  pub x_is : c.at.x ≡ (chosen_of g w h dx dy x y z).x
  pub y_is : c.at.y ≡ (chosen_of g w h dx dy x y z).y
  pub state_is : c.state ≡ (chosen_of g w h dx dy x y z).state

-- g is the region sheet of some sheet of closed crossings on which there is a shortest drive, and
-- the route has room for it.
pub record Steered (w h : ℕ) (g : List ℕ) (sx sy dx dy : ℕ) (route : List ℕ) : Type 0 where
  pub ends : Ends w h sx sy dx dy
  pub closed : List ℕ
  pub sheet : RegionSheet w h (Marked closed w h) sx sy dx dy g
  pub some : HasDrive w h (Marked closed w h) sx sy dx dy
  pub room : dist sx sy dx dy < length route

-- The route's front holds the drive from (sx, sy) in state z, the rest is as it was, and z' is the
-- state after it.
pub record DriveWritten (w h : ℕ) (g : List ℕ) (sx sy dx dy z : ℕ) (route route' : List ℕ) (z' : ℕ) : Type 0 where
  pub front : take (dist sx sy dx dy + 1) route' ≡ (drive_of g w h dx dy (dist sx sy dx dy) sx sy z).route
  pub rest : drop (dist sx sy dx dy + 1) route' ≡ drop (dist sx sy dx dy + 1) route
  pub state : z' ≡ (drive_of g w h dx dy (dist sx sy dx dy) sx sy z).state
