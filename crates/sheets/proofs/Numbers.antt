-- The number of a crossing fits sixteen bits.
use Prim.Native.Nat.{ℕ, ◌<◌}
use native.Mathlib.Omega.{arith}
use Rattle.field.specs.Map.{Sides, On, number}
use Rattle.field.specs.Limits.{crossings_few}
use Rattle.field.specs.Workings.Sheet.{number_lt}

-- Sixteen bits hold the numbers of a map within the limits: no map has more crossings than they
-- tell apart.
pub number_small : {w h x y : ℕ} → Sides w h → On w h x y → number w x y < 65536
number_small {w} {h} {x} {y} s o = omega (arith, number_lt w h x y o, crossings_few s)
