-- Promises of the crossing-lines test and of its drive (Req 06), over a sheet s that marks the
-- closed crossings: whatever is not 0 on it.
use Rattle.std.specs.Prelude.{Option, None, Some, Result, Ok, Err, List, ℕ}
use Rattle.field.specs.Refusals.{told}
use Rattle.field.specs.Labels.{Stable}
use Rattle.field.specs.CrossingLines
use Rattle.field.specs.CrossingLines.{LinesAnswer, says_no, says_yes}
use Rattle.field.specs.Workings.Sheet.{Marked}
use Rattle.field.specs.declared.Place.{Place}
use Rattle.field.specs.declared.refusals.Refusal.{Refusal}
use Rattle.calls.specs.Rules.{Gives, AnEndClosed}
use Rattle.calls.specs.LinesCall.{lines_drive_rows, LinesRegionAfter, JoinedAfter}
use Rattle.regions.specs.Promise.{MayFind}

-- The test's answer for what the code answers: no, or yes with "the westmost such column and the
-- southmost such row".
abbrev pub answered : Option Place → LinesAnswer
answered None = says_no
answered (Some p) = says_yes p.x p.y

-- What the test says, C telling the closed crossings.
abbrev pub Says : ℕ → ℕ → (ℕ → ℕ → Type 0) → ℕ → ℕ → ℕ → ℕ → Option Place → Type 0
Says w h C sx sy dx dy met = CrossingLines.Says w h C sx sy dx dy (answered met)

-- What the drive asks: no open crossing of the sheet has two or more closed neighbours, and both
-- ends are open.
pub record MayJoin (w h : ℕ) (s g : List ℕ) (sx sy dx dy : ℕ) : Type 0 where
  pub may : MayFind w h g sx sy dx dy
  pub stable : Stable w h (Marked s w h)
  pub ends : ¬ AnEndClosed (Marked s w h) sx sy dx dy

-- How many crossings are filled: none at a refusal.
abbrev pub joined_length : Result ℕ Refusal → ℕ
joined_length (Ok n) = n
joined_length (Err r) = 0

-- What is joined is refused by the drive's rows, 19 and 10, or not; the region sheet, the route and
-- the state are left as that number says.
pub record Joins (w h : ℕ) (s : List ℕ) (sx sy dx dy z : ℕ) (g g' route route' : List ℕ) (z' : ℕ) (joined : Result ℕ Refusal) : Type 0 where
  pub given : Gives (lines_drive_rows w h (Marked s w h) sx sy dx dy route) (told joined)
  pub region_after : LinesRegionAfter w h (Marked s w h) sx sy dx dy (told joined) g g'
  pub route_after : JoinedAfter w h (Marked s w h) sx sy dx dy (told joined) (joined_length joined) route z route' z'
