-- What the functions that write a map's lines ask and say.
use Rattle.std.specs.Prelude.{◌≡◌, List, [], ◌∷◌, ℕ, ◌*◌, ◌-◌, ◌<◌, ◌≤◌, length, get_or, take}
use Rattle.field.specs.declared.Depot.{Depot}
use Rattle.field.specs.declared.Placing.{Placing}
use Rattle.field.specs.Limits.{crossing_slots}
use Rattle.field.specs.Labels.{Closed}
use Rattle.field.specs.Depots.{depot_x, depot_y, HowPlaced}
use Rattle.field.specs.Workings.Placing.{plus, AtMost}
use Rattle.mapfile.specs.File.{FileRock}
use Rattle.turning.specs.Turning.{MayTurn}
use Rattle.printing.specs.Parts.{Puts, NumbersLine}
use Rattle.planning.specs.declared.lines.Told.{Told}
use Rattle.planning.specs.declared.Run.{Run}
use Rattle.planning.specs.Promise.{most_maps, MapLines}
use Rattle.planning.specs.Steps.{step_room, Tally}

-- A line, and that it takes its room at most.
abbrev pub FourNumbers : Placing → List ℕ → Type 0
FourNumbers p = NumbersLine (p.opens ∷ p.assured ∷ p.driven ∷ p.stranded ∷ [])

-- The largest number of 64 bits.
abbrev pub largest : ℕ
largest = 18446744073709551615

-- Sums to which the numbers of n lines more can be added.
abbrev pub Addable : ℕ → Placing → Type 0
Addable n sums = AtMost (largest - n * crossing_slots) sums

-- One line.
pub record DepotTold (w h : ℕ) (C : ℕ → ℕ → Type 0) (d : Depot) (told : Told) (out after : List ℕ) (r : Told) : Type 0 where
  pub numbers : Placing
  pub placed : HowPlaced w h C (depot_x d w) (depot_y d h) numbers
  pub puts : Puts (FourNumbers numbers) out told.end after r.end
  pub sums : r.sums ≡ plus told.sums numbers

-- All four.
abbrev pub AllTold : ℕ → ℕ → (ℕ → ℕ → Type 0) → Placing → List ℕ → List ℕ → Told → Type 0
AllTold w h C sums out after r = Puts (MapLines w h C sums r.sums) out 0 after r.end

-- The bits can be stamped on the sheet.
pub record MayStamp (w h : ℕ) (bits sheet : List ℕ) : Type 0 where
  pub turn : MayTurn w h bits sheet
  pub ones : (i : ℕ) → i < h * w → get_or bits i 0 ≤ 1

-- The lines of a map of these bits.
pub record MayTellMap (w h : ℕ) (bits : List ℕ) (sums : Placing) (out : List ℕ) : Type 0 where
  pub whole : h * w ≤ length bits
  pub ones : (i : ℕ) → i < h * w → get_or bits i 0 ≤ 1
  pub room : step_room ≤ length out
  pub addable : Addable 4 sums

abbrev pub MapTold : ℕ → ℕ → List ℕ → Placing → List ℕ → List ℕ → Told → Type 0
MapTold w h bits sums out after r = AllTold w h (Closed (FileRock w h (take (h * w) bits)) w h) sums out after r

-- A step: room for the longest text, and a run whose sums can be gone on with.
pub record MayStep (r : Run) (out : List ℕ) : Type 0 where
  pub room : step_room ≤ length out
  pub tally : Tally r

-- A step where bytes are at hand and a map may follow.
pub record MayStepMap (r : Run) (src out : List ℕ) : Type 0 where
  pub step : MayStep r out
  pub some : 1 ≤ length src
  pub before : r.maps < most_maps
