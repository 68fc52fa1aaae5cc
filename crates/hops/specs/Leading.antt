-- Along the row or along the column: what the functions behind `hop` promise one another.
use Rattle.std.specs.Prelude.{◌≡◌, Bool, true, false, List, Option, None, Some, ℕ}
use Rattle.field.specs.Workings.Looking.{hop_to, east_west_of, north_south_of}
use Rattle.field.specs.declared.Place.{Place}
use Rattle.hops.specs.declared.Axis.{Axis}
use Rattle.hops.specs.declared.Axis.TheVariants.{Row, Column}

-- Where (x, y) is on the axis.
abbrev pub along : Axis → ℕ → ℕ → ℕ
along Row x y = x
along Column x y = y

-- q is the place at a on the axis through (x, y).
abbrev pub Moved : Axis → ℕ → ℕ → ℕ → Place → Type 0
Moved Row a x y q = (q.x ≡ a) × (q.y ≡ y)
Moved Column a x y q = (q.x ≡ x) × (q.y ≡ a)

-- Whether the hop homeward along the axis is permitted, and where it leads.
abbrev pub passes : Axis → List ℕ → ℕ → ℕ → ℕ → ℕ → ℕ → ℕ → Bool
passes Row s w h hx hy x y = east_west_of s w h hx x y
passes Column s w h hx hy x y = north_south_of s w h hy x y

abbrev pub end : Axis → ℕ → ℕ → ℕ → ℕ → ℕ
end t hx hy x y = hop_to (along t x y) (along t hx hy)

-- That crossing, where it is.
pub record Led (t : Axis) (s : List ℕ) (w h hx hy x y : ℕ) (q : Place) : Type 0 where
  pub passed : passes t s w h hx hy x y ≡ true
  pub there : Moved t (end t hx hy x y) x y q

abbrev pub Leads : Axis → List ℕ → ℕ → ℕ → ℕ → ℕ → ℕ → ℕ → Option Place → Type 0
Leads t s w h hx hy x y None = passes t s w h hx hy x y ≡ false
Leads t s w h hx hy x y (Some q) = Led t s w h hx hy x y q
