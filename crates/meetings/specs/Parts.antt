-- What the two parts of the drive ask and do: a drive where there is one for sure, and the two one
-- after the other.
use Rattle.std.specs.Prelude.{◌≡◌, List, ℕ, ◌+◌, ◌<◌, length, take, drop}
use Rattle.field.specs.Map.{dist}
use Rattle.field.specs.Drives.{HasDrive, RegionSheet}
use Rattle.field.specs.Chooser.{Driven}
use Rattle.field.specs.CrossingLines.{OpenColumn, OpenRow, DrivenBy}
use Rattle.field.specs.Workings.Sheet.{Marked}
use Rattle.regions.specs.Promise.{MayFind}
use Rattle.meetings.specs.Promise.{MayJoin}

-- There is a shortest drive from (ax, ay) to (ex, ey), and the route has room for it.
pub record MayGo (w h : ℕ) (s g : List ℕ) (ax ay ex ey : ℕ) (route : List ℕ) : Type 0 where
  pub may : MayFind w h g ax ay ex ey
  pub some : HasDrive w h (Marked s w h) ax ay ex ey
  pub room : dist ax ay ex ey < length route

-- The route's front holds the chooser's drive from state z, the rest is as it was, and z' is the
-- state after it; the sheet g' holds the region.
pub record Gone (w h : ℕ) (s : List ℕ) (ax ay ex ey z : ℕ) (g' route route' : List ℕ) (z' : ℕ) : Type 0 where
  pub sheet : RegionSheet w h (Marked s w h) ax ay ex ey g'
  pub driven : Driven w h (Marked s w h) ax ay ex ey ax ay z (take (dist ax ay ex ey + 1) route') z'
  pub rest : drop (dist ax ay ex ey + 1) route' ≡ drop (dist ax ay ex ey + 1) route

-- The same by way of (x, y), where an open column and an open row meet.
pub record MayGoBy (w h : ℕ) (s g : List ℕ) (sx sy dx dy x y : ℕ) (route : List ℕ) : Type 0 where
  pub may : MayJoin w h s g sx sy dx dy
  pub column : OpenColumn w h (Marked s w h) sx sy dx dy x
  pub row : OpenRow w h (Marked s w h) sx sy dx dy y
  pub room : dist sx sy dx dy < length route

pub record GoneBy (w h : ℕ) (s : List ℕ) (sx sy dx dy x y z : ℕ) (g' route route' : List ℕ) (z' : ℕ) : Type 0 where
  pub sheet : RegionSheet w h (Marked s w h) sx sy dx dy g'
  pub by : DrivenBy w h (Marked s w h) sx sy dx dy x y z (take (dist sx sy dx dy + 1) route') z'
  pub rest : drop (dist sx sy dx dy + 1) route' ≡ drop (dist sx sy dx dy + 1) route
