-- Promises over a lent list of marker records with its count, in the words of the list's meanings.
use Rattle.std.specs.Prelude.{◌≡◌, Bool, true, false, ◌↔◌, List, ℕ, ◌*◌, ◌<◌, ◌≤◌, length, get_or}
use Rattle.field.specs.declared.Marker.{Marker}
use Rattle.field.specs.Labels.{Rock, RockOn}
use Rattle.field.specs.Workings.Sheet.{Draws}
use Rattle.markers.specs.List.{slot, WellFormed, InUse, in_use_of}
use Rattle.markers.specs.Laws.Rocks.{Stands, Any}
use Rattle.markers.specs.Promise.{Rising}
use Rattle.records.specs.declared.Spot.{Spot}
pub use Rattle.markers.specs.Promise.{Enters, Clears}

-- Where the id stands or belongs: every marker before has a lower id, none from there on has.
pub record Belongs (list : List Marker) (count id r : ℕ) : Type 0 where
  pub within : r ≤ count
  pub lower : (k : ℕ) → k < r → (slot list k).id < id
  pub higher : (k : ℕ) → r ≤ k → k < count → id ≤ (slot list k).id

-- What is found of an id: its place, and whether it is in use.
pub record SpotOf (list : List Marker) (count id : ℕ) (s : Spot) : Type 0 where
  pub at : Belongs list count id s.place
  pub used : (s.used ≡ true) ↔ InUse list count id

-- What entering asks: rising ids, a place by id that no marker with this id has, and a slot.
pub record MayEnter (list : List Marker) (count : ℕ) (m : Marker) : Type 0 where
  pub rising : Rising list count
  pub new : ¬ InUse list count m.id
  pub room : count < length list

-- What clearing asks: rising ids, and an id that is in use.
pub record MayClear (list : List Marker) (count id : ℕ) : Type 0 where
  pub rising : Rising list count
  pub used : InUse list count id

-- What stamping a sheet asks: a well-formed list and a sheet of the map's size.
pub record MayStamp (w h : ℕ) (list : List Marker) (count : ℕ) (sheet : List ℕ) : Type 0 where
  pub formed : WellFormed w h list count
  pub size : length sheet ≡ h * w

-- Which crossings are stamped: where low ones are included, those with a marker in use; and else
-- the rocks of a cart of this clearance.
abbrev pub Stamps : ℕ → Bool → List Marker → ℕ → ℕ → ℕ → Type 0
Stamps clearance true list count = Stands Any list count
Stamps clearance false list count = Rock clearance (in_use_of list count)

-- The sheet stamped: 1 on each of them, however many markers stand on it, and 0 elsewhere.
pub record StampedWith (w h clearance : ℕ) (low : Bool) (list : List Marker) (count : ℕ) (sheet : List ℕ) : Type 0 where
  pub size : length sheet ≡ h * w
  pub ones : (i : ℕ) → get_or sheet i 0 ≤ 1
  pub rocks : Draws w h (RockOn (Stamps clearance low list count) w h) sheet
