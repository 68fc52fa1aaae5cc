-- What an asking comes to, once the label sheet s is stamped with the rocks: the sheet is labelled,
-- and the question is answered over the closed crossings of the rocks stamped. It is said in the
-- words of the calls: by the rows that need the labels, and by what is left in lent memory. A
-- primed name is what the asking leaves.
use Rattle.std.specs.Prelude.{◌≡◌, Bool, true, List, ◌↔◌, ℕ, ◌*◌, length, Result, Ok, Err, IfOk, Option}
use Rattle.field.specs.declared.Hops.{Hops}
use Rattle.field.specs.declared.Place.{Place}
use Rattle.field.specs.declared.Size.{Size}
use Rattle.field.specs.declared.reasons.Fault.{Fault}
use Rattle.field.specs.declared.refusals.Refusal.{Refusal}
use Rattle.field.specs.declared.refusals.Refusal.TheVariants.{EndClosed}
use Rattle.field.specs.Map.{On}
use Rattle.field.specs.Refusals.{told}
use Rattle.field.specs.Labels.{Closed, Stable, LabelSheet}
use Rattle.field.specs.Distances.{Distances, DistanceSheet, eastward, southward, westward, northward, Assured}
use Rattle.field.specs.Hops.{Answers}
use Rattle.field.specs.Checks.{Finds}
use Rattle.labels.specs.Promise.{Stamped, Stones}
pub use Rattle.drives.specs.Promise.{made_length}
pub use Rattle.meetings.specs.Promise.{joined_length}
use Rattle.calls.specs.Rules.{Rule, Gives, AnEndClosed, assured_rows, hop_rows, region_rows, drive_rows}
use Rattle.calls.specs.Answers.{RegionAfter, RouteAfter}
use Rattle.calls.specs.CheckCall.{check_rows, finding}
use Rattle.calls.specs.LinesCall.{lines_rows, lines_drive_rows, LinesTold, LinesRegionAfter, JoinedAfter}
use Rattle.calls.specs.Told.{hops_named, checked, crossing_lines}

-- The crossings that the rocks stamped on a sheet close.
abbrev pub ClosedOn : ℕ → ℕ → List ℕ → ℕ → ℕ → Type 0
ClosedOn w h s = Closed (Stones w h s) w h

-- What an asking comes to after the first part of the call: where that told the map's size, what is
-- done over the map; where it refused, the same refusal: "A refusal returns its number only", and
-- "refusals 1 to 7 ... change no lent byte".
abbrev pub AfterFirst : {A : Type 0} → Result Size Refusal → (Size → Type 0) → Type 0 → Result A Refusal → Type 0
AfterFirst (Ok map) done kept r = done map
AfterFirst (Err e) done kept r = (r ≡ Err e) × kept

-- What is asked: the sheet is stamped, the places are on the map, and the other sheets have the
-- map's size.
pub record MayAsk (w h x y : ℕ) (s : List ℕ) : Type 0 where
  pub stamped : Stamped w h s
  pub on : On w h x y

pub record MayAskTwo (w h x y a b : ℕ) (s : List ℕ) : Type 0 where
  pub stamped : Stamped w h s
  pub from : On w h x y
  pub to : On w h a b

pub record MayMeasure (w h : ℕ) (s e d f u : List ℕ) : Type 0 where
  pub stamped : Stamped w h s
  pub east : length e ≡ h * w
  pub south : length d ≡ h * w
  pub west : length f ≡ h * w
  pub north : length u ≡ h * w

pub record MayDrive (w h x y a b : ℕ) (s g : List ℕ) : Type 0 where
  pub asked : MayAskTwo w h x y a b s
  pub size : length g ≡ h * w

-- A question that may be refused: its number is given by the rows, and where there is an answer, it
-- is the one asked for.
pub record Asked {A : Type 0} (rows : List Rule) (Answer : A → Type 0) (r : Result A Refusal) : Type 0 where
  pub given : Gives rows (told r)
  pub answer : IfOk r Answer

-- One that is asked over the label sheet, which holds the labels whether it is refused or not.
pub record Rest {A : Type 0} (w h : ℕ) (s s' : List ℕ) (rows : List Rule) (Answer : A → Type 0) (r : Result A Refusal) : Type 0 where
  pub sheet : LabelSheet (Stones w h s) w h s'
  pub asked : Asked rows Answer r

-- the four distances of a crossing
pub record DistancesRest (w h x y : ℕ) (s s' four : List ℕ) : Type 0 where
  pub sheet : LabelSheet (Stones w h s) w h s'
  pub distances : Distances (ClosedOn w h s) x y four

-- the distances of the map
pub record MeasureRest (w h : ℕ) (s s' e d f u : List ℕ) : Type 0 where
  pub sheet : LabelSheet (Stones w h s) w h s'
  pub east : DistanceSheet w h (ClosedOn w h s) eastward e
  pub south : DistanceSheet w h (ClosedOn w h s) southward d
  pub west : DistanceSheet w h (ClosedOn w h s) westward f
  pub north : DistanceSheet w h (ClosedOn w h s) northward u

-- assured
abbrev pub AssuredRest : ℕ → ℕ → ℕ → ℕ → ℕ → ℕ → List ℕ → List ℕ → Result Bool Refusal → Type 0
AssuredRest w h hx hy x y s s' =
    Rest w h s s' (assured_rows (ClosedOn w h s) hx hy x y) (λ b. (b ≡ true) ↔ Assured w h (ClosedOn w h s) hx hy x y)

-- hop: over any closed crossings C, and over the label sheet
abbrev pub HopAsked : ℕ → ℕ → (ℕ → ℕ → Type 0) → ℕ → ℕ → ℕ → ℕ → Result Hops Refusal → Type 0
HopAsked w h C hx hy x y = Asked (hop_rows w h C hx hy x y) (λ a. Answers w h C hx hy x y (hops_named a))

abbrev pub HopRest : ℕ → ℕ → ℕ → ℕ → ℕ → ℕ → List ℕ → List ℕ → Result Hops Refusal → Type 0
HopRest w h hx hy x y s s' =
    Rest w h s s' (hop_rows w h (ClosedOn w h s) hx hy x y) (λ a. Answers w h (ClosedOn w h s) hx hy x y (hops_named a))

-- check: drawn is the list that is checked
abbrev pub CheckRest : ℕ → ℕ → ℕ → ℕ → ℕ → ℕ → List ℕ → List ℕ → List ℕ → Result (Result Unit Fault) Refusal → Type 0
CheckRest w h sx sy dx dy s drawn s' =
    Rest w h s s' (check_rows (ClosedOn w h s) sx sy dx dy) (λ f. Finds w h (ClosedOn w h s) sx sy dx dy drawn (finding (checked (Ok f))))

-- the crossing-lines test
abbrev pub LinesRest : ℕ → ℕ → ℕ → ℕ → ℕ → ℕ → List ℕ → List ℕ → Result (Option Place) Refusal → Type 0
LinesRest w h sx sy dx dy s s' =
    Rest w h s s' (lines_rows (ClosedOn w h s) sx sy dx dy) (λ l. LinesTold w h (ClosedOn w h s) sx sy dx dy (crossing_lines (Ok l)))

-- region
pub record RegionRest (w h sx sy dx dy : ℕ) (s g s' g' : List ℕ) (r : Result Unit Refusal) : Type 0 where
  pub sheet : LabelSheet (Stones w h s) w h s'
  pub given : Gives (region_rows w h (ClosedOn w h s) sx sy dx dy) (told r)
  pub region_after : RegionAfter w h (ClosedOn w h s) sx sy dx dy (told r) g g'

-- drive
pub record DriveRest (w h sx sy dx dy : ℕ) (s g route : List ℕ) (z : ℕ) (s' g' route' : List ℕ) (z' : ℕ) (r : Result ℕ Refusal) : Type 0 where
  pub sheet : LabelSheet (Stones w h s) w h s'
  pub given : Gives (drive_rows w h (ClosedOn w h s) sx sy dx dy route) (told r)
  pub region_after : RegionAfter w h (ClosedOn w h s) sx sy dx dy (told r) g g'
  pub route_after : RouteAfter w h (ClosedOn w h s) sx sy dx dy (told r) (made_length r) route z route' z'

-- the drive by way of the crossing lines
pub record LinesDriveRest (w h sx sy dx dy : ℕ) (s g route : List ℕ) (z : ℕ) (s' g' route' : List ℕ) (z' : ℕ) (r : Result ℕ Refusal) : Type 0 where
  pub sheet : LabelSheet (Stones w h s) w h s'
  pub given : Gives (lines_drive_rows w h (ClosedOn w h s) sx sy dx dy route) (told r)
  pub region_after : LinesRegionAfter w h (ClosedOn w h s) sx sy dx dy (told r) g g'
  pub route_after : JoinedAfter w h (ClosedOn w h s) sx sy dx dy (told r) (joined_length r) route z route' z'

-- For the functions within, C being the closed crossings: what the test of two ends tells, refusal 8
-- exactly where one is closed; and what a hop asks, that no open crossing has two or more closed
-- neighbours.
abbrev pub EndsTold : (ℕ → ℕ → Type 0) → ℕ → ℕ → ℕ → ℕ → Result Unit Refusal → Type 0
EndsTold C x y a b (Ok _) = ¬ AnEndClosed C x y a b
EndsTold C x y a b (Err r) = AnEndClosed C x y a b × (r ≡ EndClosed)

pub record MayGoHome (w h : ℕ) (C : ℕ → ℕ → Type 0) (hx hy x y : ℕ) : Type 0 where
  pub home : On w h hx hy
  pub on : On w h x y
  pub stable : Stable w h C
