-- A map that is read is the one that was written.
use Rattle.std.specs.Prelude.{◌≡◌, ◌↔◌, ℕ, ◌<◌}
use Rattle.field.specs.Map.{tallest}
use Rattle.field.specs.Labels.{RockOn, Count}
use Rattle.calls.specs.Rules.{LentMap, with_clearance, RocksOf}

-- A map that is read is the same as the one written for a cart: width and height are equal, and
-- there are as many markers as the cart has rocks. These are its rocks for every cart: "Markers
-- read from a map file get 65,535" (document 02, Req 08), so that all but one of that clearance
-- find them.
pub record SameMap (m read : LentMap) : Type 0 where
  pub width : read.width ≡ m.width
  pub height : read.height ≡ m.height
  pub count : Count m.width m.height (RockOn (RocksOf m) m.width m.height) read.count
  pub crossings : (clearance : ℕ) → clearance < tallest → (x y : ℕ) → RocksOf (with_clearance read clearance) x y ↔ RocksOf m x y
