-- The lists that any sequence of entering and clearing reaches from a well-formed one.
use Rattle.std.specs.Prelude.{◌≡◌, List, ℕ, ◌+◌, ◌<◌, ◌≤◌, length}
use Rattle.field.specs.declared.Marker.{Marker}
use Rattle.field.specs.Map.{On, most_markers}
use Rattle.markers.specs.List.{WellFormed, InUse, Entered, Cleared}

-- From any well-formed list, such as one with nothing in use, whatever its slots hold; by entering
-- a marker of the map with an id that is not 0 and not in use, where there is a slot; by clearing
-- an id in use.
pub data Reached (w h : ℕ) : List Marker → ℕ → Type 0 where
  start : {list : List Marker} {count : ℕ} → WellFormed w h list count → Reached w h list count
  enter : {list after : List Marker} {count next : ℕ} (m : Marker) → Reached w h list count → 1 ≤ m.id → On w h m.x m.y
      → ¬ InUse list count m.id → count < length list → count < most_markers → Entered list count m after → next ≡ count + 1
      → Reached w h after next
  clear : {list after : List Marker} {count next : ℕ} (id : ℕ) → Reached w h list count → Cleared list count id after → next + 1 ≡ count
      → Reached w h after next
