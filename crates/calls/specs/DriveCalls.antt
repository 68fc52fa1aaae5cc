-- Region and drive calls between open ends, on a map of document 01's size with fitting sheets and
-- a well-formed list.
use Rattle.std.specs.Prelude.{◌≡◌, List, ℕ, ◌*◌, length}
use Rattle.field.specs.Labels.{Open}
use Rattle.calls.specs.Rules.{LentMap, Sized, Formed, ClosedBy}

-- What is asked: a region or a drive between open ends, with nothing amiss in the map, the sheets
-- and the list.
pub record BetweenOpen (m : LentMap) (sx sy dx dy : ℕ) (labels region : List ℕ) : Type 0 where
  pub sides : Sized m
  pub labels_fit : length labels ≡ m.height * m.width
  pub region_fits : length region ≡ m.height * m.width
  pub formed : Formed m
  pub from : Open m.width m.height (ClosedBy m) sx sy
  pub to : Open m.width m.height (ClosedBy m) dx dy
