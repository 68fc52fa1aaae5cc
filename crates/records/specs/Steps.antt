-- What is asked of a count and of one record, by value, and of a sheet about one record.
use Rattle.std.specs.Prelude.{◌≡◌, Bool, true, false, List, ◌⊎◌, ℕ, ◌<◌, ◌≤◌, set}
use Rattle.field.specs.declared.Marker.{Marker}
use Rattle.field.specs.Map.{On, at, number, most_markers}
use Rattle.markers.specs.Laws.Rocks.{Any, Over}

-- A count within its limits: "At most 4,096", with Req 07 8,192, and not "over the list lent".
pub record Few (count lent : ℕ) : Type 0 where
  pub most : count ≤ most_markers
  pub within : count ≤ lent

-- The marker may follow one with the id `last`, or come first where `last` is 0: so no id is 0, and
-- ids rise.
pub record Follows (last : ℕ) (m : Marker) (w h : ℕ) : Type 0 where
  pub higher : last < m.id
  pub on : On w h m.x m.y

-- The marker is stamped: every one where low ones are included, and else one "if its height is
-- greater than the clearance".
abbrev pub Counts : ℕ → Bool → Marker → Type 0
Counts clearance true = Any
Counts clearance false = Over clearance

-- One marker's turn on a sheet: 1 on its crossing, or nothing.
pub record Marks (clearance : ℕ) (low : Bool) (m : Marker) (w : ℕ) (sheet sheet' : List ℕ) : Type 0 where
  pub stamped : Counts clearance low m → sheet' ≡ set sheet (number w m.x m.y) 1
  pub passed : ¬ Counts clearance low m → sheet' ≡ sheet

-- The sheet shows the marker's crossing closed: its byte there is 1 or 2.
abbrev pub ShowsClosed : ℕ → List ℕ → Marker → Type 0
ShowsClosed w s m = (at s w m.x m.y ≡ 1) ⊎ (at s w m.x m.y ≡ 2)

-- The marker is passed: where it stops a cart of this clearance, the sheet shows its crossing
-- closed. "every crossing with a marker that stops this cart is shown closed" (Req 09)
abbrev pub Passes : ℕ → ℕ → List ℕ → Marker → Type 0
Passes clearance w s m = Counts clearance false m → ShowsClosed w s m
