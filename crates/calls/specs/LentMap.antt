-- What is lent with every call over a list: "a list of marker records with a count of those in
-- use", and the map's width and height; and "to each asking the cart's ground clearance" (document
-- 02, Req 08).
use Rattle.std.specs.Prelude.{List, ℕ}
use Rattle.field.specs.declared.Marker.{Marker}
use Rattle.field.specs.Map.{Sides, On}
use Rattle.field.specs.Labels.{Rock, Closed}
use Rattle.markers.specs.List.{WellFormed, in_use_of}

pub record LentMap : Type 0 where
  pub list : List Marker
  pub count : ℕ
  pub width : ℕ
  pub height : ℕ
  pub clearance : ℕ

abbrev pub lent_map : List Marker → ℕ → ℕ → ℕ → ℕ → LentMap
lent_map list count w h clearance = record { list = list; count = count; width = w; height = h; clearance = clearance }

-- Entering and clearing are lent no clearance, and none is handed back by reading: 0 stands for it,
-- and no row of the tables of entering and clearing looks at it.
abbrev pub lent_list : List Marker → ℕ → ℕ → ℕ → LentMap
lent_list list count w h = lent_map list count w h 0

-- The same list and map, asked about for another cart.
abbrev pub with_clearance : LentMap → ℕ → LentMap
with_clearance m clearance = lent_map m.list m.count m.width m.height clearance

-- Its size is within the limits; a place is on it; its list is well formed.
abbrev pub Sized : LentMap → Type 0
Sized m = Sides m.width m.height

abbrev pub OnIt : LentMap → ℕ → ℕ → Type 0
OnIt m x y = On m.width m.height x y

abbrev pub Formed : LentMap → Type 0
Formed m = WellFormed m.width m.height m.list m.count

-- The markers in use, the cart's rocks by them, and its closed crossings: "Demands 2 and 3 then
-- speak of one cart's rocks throughout" (Req 08).
abbrev pub markers_in : LentMap → List Marker
markers_in m = in_use_of m.list m.count

abbrev pub RocksOf : LentMap → ℕ → ℕ → Type 0
RocksOf m = Rock m.clearance (markers_in m)

abbrev pub ClosedBy : LentMap → ℕ → ℕ → Type 0
ClosedBy m = Closed (RocksOf m) m.width m.height
