-- What assurance is asked of: home and a place of a map.
use Rattle.std.specs.Prelude.{ℕ}
use Rattle.field.specs.Map.{On}

-- Home and a place of the map.
pub record AskedHome (w h hx hy x y : ℕ) : Type 0 where
  pub home : On w h hx hy
  pub on : On w h x y
