-- The promises of the two calls of request 06, the crossing-lines test and the drive that it
-- yields: their rules, their answers, and what they leave in lent memory. The answers and what is
-- left are said of any closed crossings C, as in Answers.
use Rattle.std.specs.Prelude.{◌≡◌, true, false, List, [], ◌∷◌, ◌⊎◌, ℕ, ◌+◌, ◌≤◌, take, drop}
use Rattle.field.specs.Map.{dist}
use Rattle.field.specs.Refusals.{end_closed, no_lines}
use Rattle.field.specs.Drives.{RegionSheet}
use Rattle.field.specs.CrossingLines.{Lines, HasLines, DrivenBy}
use Rattle.calls.specs.Rules
use Rattle.calls.specs.Rules.{Rule, rule, Gives, LentMap, RocksOf, ClosedBy}
use Rattle.calls.specs.Answers.{LabelsAfter}
use Rattle.calls.specs.declared.CrossingLines.{CrossingLines}
use Rattle.calls.specs.declared.Drove.{Drove}

-- "Refusals: 4, 8 and 10 as before; 9 is not given here". The test: 4 and 8.
abbrev pub lines_rows : (ℕ → ℕ → Type 0) → ℕ → ℕ → ℕ → ℕ → List Rule
lines_rows C sx sy dx dy = Rules.ends_rule C sx sy dx dy ∷ []

abbrev pub lines_table : LentMap → ℕ → ℕ → ℕ → ℕ → List ℕ → List Rule
lines_table m sx sy dx dy labels = Rules.asking_table m (labels ∷ []) (Rules.places_rule m sx sy dx dy ∷ lines_rows (ClosedBy m) sx sy dx dy)

-- 19: "drive asked and no such column and row"
abbrev pub lines_rule : ℕ → ℕ → (ℕ → ℕ → Type 0) → ℕ → ℕ → ℕ → ℕ → Rule
lines_rule w h C sx sy dx dy = rule no_lines (¬ HasLines w h C sx sy dx dy)

-- "19 ... given after 8 and before 10": these rows stand in the order in which they are tried,
-- which is not that of their numbers.
abbrev pub lines_drive_rows : ℕ → ℕ → (ℕ → ℕ → Type 0) → ℕ → ℕ → ℕ → ℕ → List ℕ → List Rule
lines_drive_rows w h C sx sy dx dy route =
    Rules.ends_rule C sx sy dx dy ∷ lines_rule w h C sx sy dx dy ∷ Rules.route_rule sx sy dx dy route ∷ []

abbrev pub lines_drive_table : LentMap → ℕ → ℕ → ℕ → ℕ → List ℕ → List ℕ → List ℕ → List Rule
lines_drive_table m sx sy dx dy labels region route =
    Rules.asking_table m (labels ∷ region ∷ [])
    (Rules.places_rule m sx sy dx dy ∷ lines_drive_rows m.width m.height (ClosedBy m) sx sy dx dy route)

-- No lines, or a refusal: zeros and no beside the number.
abbrev pub no_lines_told : ℕ → CrossingLines
no_lines_told n = record { refusal = n; yes = false; column = 0; row = 0 }

-- "say yes if some column between them ... and some row between them ... are open throughout the
-- rectangle ... and hand back the westmost such column and the southmost such row"; else "the test
-- just says no".
pub record LinesTold (w h : ℕ) (C : ℕ → ℕ → Type 0) (sx sy dx dy : ℕ) (r : CrossingLines) : Type 0 where
  pub lines : r.yes ≡ true → Lines w h C sx sy dx dy r.column r.row
  pub none : r.yes ≡ false → ¬ HasLines w h C sx sy dx dy
  pub zeros : r.yes ≡ false → r ≡ no_lines_told 0

-- the crossing-lines test
pub record LinesCall (m : LentMap) (sx sy dx dy : ℕ) (labels labels' : List ℕ) (r : CrossingLines) : Type 0 where
  pub given : Gives (lines_table m sx sy dx dy labels) r.refusal
  pub labels_after : LabelsAfter (RocksOf m) m.width m.height r.refusal labels labels'
  pub refused : ¬ (r.refusal ≡ 0) → r ≡ no_lines_told r.refusal
  pub done : r.refusal ≡ 0 → LinesTold m.width m.height (ClosedBy m) sx sy dx dy r

-- The numbers at which the region sheet is left alone: "region sheet ... unchanged" at 19, and at
-- every number up to 8.
abbrev pub RegionSpared : ℕ → Type 0
RegionSpared n = ((1 ≤ n) × (n ≤ end_closed)) ⊎ (n ≡ no_lines)

-- "On success and at 10 the region sheet holds the region of s and d", of the whole drive and not
-- of one of its two parts.
pub record LinesRegionAfter (w h : ℕ) (C : ℕ → ℕ → Type 0) (sx sy dx dy n : ℕ) (region region' : List ℕ) : Type 0 where
  pub kept : RegionSpared n → region' ≡ region
  pub made : ¬ RegionSpared n → RegionSheet w h C sx sy dx dy region'

-- "a drive by way of the crossing where column and row meet": where the westmost column and the
-- southmost row do, the two that the test hands back.
pub record JoinedDrive (w h : ℕ) (C : ℕ → ℕ → Type 0) (sx sy dx dy state : ℕ) (l : List ℕ) (state' : ℕ) : Type 0 where
  pub column : ℕ
  pub row : ℕ
  pub lines : Lines w h C sx sy dx dy column row
  pub by : DrivenBy w h C sx sy dx dy column row state l state'

-- "route buffer and state unchanged" at a refusal, and no crossing is filled; else the route's
-- front, so many crossings, is that drive from the state lent, and the rest is unchanged.
pub record JoinedAfter (w h : ℕ) (C : ℕ → ℕ → Type 0) (sx sy dx dy n crossings : ℕ) (route : List ℕ) (state : ℕ) (route' : List ℕ) (state' : ℕ) : Type 0 where
  pub none : ¬ (n ≡ 0) → crossings ≡ 0
  pub kept : ¬ (n ≡ 0) → route' ≡ route
  pub still : ¬ (n ≡ 0) → state' ≡ state
  pub long : n ≡ 0 → crossings ≡ dist sx sy dx dy + 1
  pub driven : n ≡ 0 → JoinedDrive w h C sx sy dx dy state (take crossings route') state'
  pub rest : n ≡ 0 → drop crossings route' ≡ drop crossings route

-- the drive by way of the crossing lines; at 19 the label sheet holds the labels, as at 8 and 10
pub record LinesDriveCall (m : LentMap) (sx sy dx dy : ℕ) (labels region route : List ℕ) (state : ℕ) (labels' region' route' : List ℕ) (state' : ℕ) (r : Drove) : Type 0 where
  pub given : Gives (lines_drive_table m sx sy dx dy labels region route) r.refusal
  pub labels_after : LabelsAfter (RocksOf m) m.width m.height r.refusal labels labels'
  pub region_after : LinesRegionAfter m.width m.height (ClosedBy m) sx sy dx dy r.refusal region region'
  pub route_after : JoinedAfter m.width m.height (ClosedBy m) sx sy dx dy r.refusal r.length route state route' state'
