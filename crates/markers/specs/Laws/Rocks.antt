-- Rocks by slots: a crossing is a rock for a cart where a marker in use that is higher than its
-- clearance stands on it.
use Rattle.std.specs.Prelude.{◌≡◌, List, ◌⊎◌, ℕ, ◌<◌}
use Rattle.field.specs.declared.Marker.{Marker}
use Rattle.field.specs.Labels.{Rock}
use Rattle.markers.specs.List.{slot, in_use_of}

-- A marker in use of which P holds stands on (x, y).
pub record Stands (P : Marker → Type 0) (list : List Marker) (count x y : ℕ) : Type 0 where
  pub place : ℕ
  pub below : place < count
  pub x_is : (slot list place).x ≡ x
  pub y_is : (slot list place).y ≡ y
  pub such : P (slot list place)

-- Of every marker; and of those that stop a cart of this clearance.
abbrev pub Any : Marker → Type 0
Any m = Unit {0}

abbrev pub Over : ℕ → Marker → Type 0
Over clearance m = clearance < m.height

-- The rocks after entering: those before, and the crossing of the marker entered, if it is higher
-- than the clearance.
abbrev pub RockOrNew : ℕ → List Marker → ℕ → Marker → ℕ → ℕ → Type 0
RockOrNew clearance list count m x y = Rock clearance (in_use_of list count) x y ⊎ ((m.x ≡ x) × (m.y ≡ y) × (clearance < m.height))

-- Another marker in use, one with another id, stands on (x, y), higher than the clearance.
pub record OtherStands (clearance : ℕ) (list : List Marker) (count id x y : ℕ) : Type 0 where
  pub place : ℕ
  pub below : place < count
  pub other : ¬ ((slot list place).id ≡ id)
  pub x_is : (slot list place).x ≡ x
  pub y_is : (slot list place).y ≡ y
  pub stops : clearance < (slot list place).height
