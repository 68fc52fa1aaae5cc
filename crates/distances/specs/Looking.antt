-- A look one way from a crossing to the map's edge: how far it goes.
use Rattle.std.specs.Prelude.{◌≡◌, ℕ, ◌-◌, ◌<◌, ◌≤◌}
use Rattle.field.specs.Map.{side, On}
use Rattle.field.specs.Distances.{Way, eastward, southward, westward, northward, Along}
use Rattle.distances.specs.declared.look.Way as look
use Rattle.distances.specs.declared.look.Way.TheVariants.{East, South, West, North}

-- The code's four ways.
abbrev pub towards : look.Way → Way
towards East = eastward
towards South = southward
towards West = westward
towards North = northward

-- The hops from (x, y) to the edge that way.
abbrev pub reach : Way → ℕ → ℕ → ℕ → ℕ → ℕ
reach eastward w h x y = w - 1 - x
reach southward w h x y = y
reach westward w h x y = x
reach northward w h x y = h - 1 - y

-- n is that many hops; they are fewer than a side has crossings.
pub record Edge (t : Way) (w h x y n : ℕ) : Type 0 where
  pub is : n ≡ reach t w h x y
  pub short : n < side

-- A crossing of a map within the limits, and k hops from it that stay on the map.
pub record Within (t : Way) (w h x y k : ℕ) : Type 0 where
  pub on : On w h x y
  pub near : k ≤ reach t w h x y

-- (a, b) is a crossing of the map, k hops that way from (x, y).
pub record After (t : Way) (w h x y k a b : ℕ) : Type 0 where
  pub along : Along t k x y a b
  pub on : On w h a b
