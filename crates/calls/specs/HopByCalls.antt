-- A hop asked by a morning sheet, and what a cart knows whose home is assured by one.
use Rattle.std.specs.Prelude.{◌≡◌, List, ℕ, ◌*◌, length}
use Rattle.field.specs.Distances.{Assured}
use Rattle.calls.specs.Rules.{LentMap, Sized, OnIt, Formed}
use Rattle.calls.specs.HopByCall.{TakenOn, ShownOn}

-- A hop asked by a sheet of the map's size with nothing amiss in the map, the list and the places.
pub record AskedBy (m : LentMap) (hx hy x y : ℕ) (sheet : List ℕ) : Type 0 where
  pub sides : Sized m
  pub fits : length sheet ≡ m.height * m.width
  pub formed : Formed m
  pub home : OnIt m hx hy
  pub place : OnIt m x y

-- What a cart knows whose home is assured by a sheet: the map, the list, the sheet taken, and the
-- assurance read from it.
pub record AssuredBy (m : LentMap) (hx hy x y : ℕ) (sheet : List ℕ) : Type 0 where
  pub sides : Sized m
  pub fits : length sheet ≡ m.height * m.width
  pub formed : Formed m
  pub taken : TakenOn m sheet
  pub assured : Assured m.width m.height (ShownOn m sheet) hx hy x y
