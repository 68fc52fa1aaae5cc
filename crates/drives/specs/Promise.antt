-- Promise of the drive, over a sheet s that marks the closed crossings: whatever is not 0 on it.
use Rattle.std.specs.Prelude.{Result, Ok, Err, ℕ, List}
use Rattle.field.specs.Refusals.{told}
use Rattle.field.specs.Workings.Sheet.{Marked}
use Rattle.field.specs.declared.refusals.Refusal.{Refusal}
use Rattle.calls.specs.Rules.{Gives, drive_rows}
use Rattle.calls.specs.Answers.{RegionAfter, RouteAfter}

-- How many crossings are filled: none at a refusal.
abbrev pub made_length : Result ℕ Refusal → ℕ
made_length (Ok n) = n
made_length (Err r) = 0

-- What is made is refused by the rows that need the labels and by the route's, 8, 9 and 10, or not;
-- the region sheet, the route and the state are left as that number says.
pub record Makes (w h : ℕ) (s : List ℕ) (sx sy dx dy z : ℕ) (g g' route route' : List ℕ) (z' : ℕ) (made : Result ℕ Refusal) : Type 0 where
  pub given : Gives (drive_rows w h (Marked s w h) sx sy dx dy route) (told made)
  pub region_after : RegionAfter w h (Marked s w h) sx sy dx dy (told made) g g'
  pub route_after : RouteAfter w h (Marked s w h) sx sy dx dy (told made) (made_length made) route z route' z'
