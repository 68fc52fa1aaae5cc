-- What the theorems on entering, clearing and reading as calls speak of.
use Rattle.std.specs.Prelude.{List, ◌↔◌, ℕ, ◌<◌, ◌≤◌, length}
use Rattle.field.specs.declared.Marker.{Marker}
use Rattle.field.specs.Map.{most_markers}
use Rattle.markers.specs.List.{InUse, Times}
use Rattle.markers.specs.Reached.{Reached}
use Rattle.calls.specs.Rules.{LentMap, OnIt, Formed}

-- What an enter call that succeeds was given.
pub record EnterPassed (m : LentMap) (id x y : ℕ) : Type 0 where
  pub formed : Formed m
  pub on : OnIt m x y
  pub some_id : 1 ≤ id
  pub fresh : ¬ InUse m.list m.count id
  pub room : m.count < length m.list
  pub few : m.count < most_markers

-- The lent map's list is reached on its map.
abbrev pub MapReached : LentMap → Type 0
MapReached m = Reached m.width m.height m.list m.count

-- A marker stands in two lists equally often.
abbrev pub AsOften : Marker → List Marker → List Marker → Type 0
AsOften k before after = (t : ℕ) → Times k before t ↔ Times k after t
