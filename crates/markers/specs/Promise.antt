-- A marker of its parts; what entering, clearing and a search by halves ask of a list; and what
-- entering and clearing make of it.
use Rattle.std.specs.Prelude.{◌≡◌, List, ℕ, ◌+◌, ◌<◌, ◌≤◌, length}
use Rattle.field.specs.declared.Marker.{Marker}
use Rattle.markers.specs.List.{slot, Entered, Cleared}

-- A marker of its parts.
abbrev pub marker : ℕ → ℕ → ℕ → ℕ → Marker
marker i x y height = record { id = i; x = x; y = y; height = height }

-- The ids in use rise, within the list.
pub record Rising (list : List Marker) (count : ℕ) : Type 0 where
  pub lent : count ≤ length list
  pub rising : (k : ℕ) → k + 1 < count → (slot list k).id < (slot list (k + 1)).id

-- What entering and clearing make of the list, and the new count.
pub record Enters (before : List Marker) (count : ℕ) (m : Marker) (after : List Marker) (r : ℕ) : Type 0 where
  pub list : Entered before count m after
  pub counted : r ≡ count + 1

pub record Clears (before : List Marker) (count id : ℕ) (after : List Marker) (r : ℕ) : Type 0 where
  pub list : Cleared before count id after
  pub counted : r + 1 ≡ count
