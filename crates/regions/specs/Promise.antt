-- Promise of the region, over a sheet s that marks the closed crossings: whatever is not 0 on it.
use Rattle.std.specs.Prelude.{◌≡◌, Result, List, ℕ, ◌*◌, length}
use Rattle.field.specs.Map.{On}
use Rattle.field.specs.Refusals.{told}
use Rattle.field.specs.Workings.Sheet.{Marked}
use Rattle.field.specs.declared.refusals.Refusal.{Refusal}
use Rattle.calls.specs.Rules.{Gives, region_rows}
use Rattle.calls.specs.Answers.{RegionAfter}

-- Two places of the map.
pub record Ends (w h ax ay bx by : ℕ) : Type 0 where
  pub from : On w h ax ay
  pub to : On w h bx by

-- A sheet of the map's size for the region, and two places of the map.
pub record MayFind (w h : ℕ) (g : List ℕ) (sx sy dx dy : ℕ) : Type 0 where
  pub region : length g ≡ h * w
  pub from : On w h sx sy
  pub to : On w h dx dy

-- What is found is refused by the rows that need the labels, 8 and 9, or not; and the sheet is left
-- as that number says.
pub record Regioned (w h : ℕ) (s : List ℕ) (sx sy dx dy : ℕ) (g g' : List ℕ) (found : Result Unit Refusal) : Type 0 where
  pub given : Gives (region_rows w h (Marked s w h) sx sy dx dy) (told found)
  pub region_after : RegionAfter w h (Marked s w h) sx sy dx dy (told found) g g'
