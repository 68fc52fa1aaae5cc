-- One step of a run, over the bytes at hand: what is said of it holds whatever bytes follow them.
use Rattle.std.specs.Prelude.{◌≡◌, Bool, false, List, [], ◌++◌, ◌⊎◌, ℕ, ◌+◌, ◌*◌, ◌<◌, ◌≤◌, length, drop}
use Rattle.field.specs.Map.{side}
use Rattle.field.specs.Labels.{Closed}
use Rattle.field.specs.Workings.Placing.{AtMost}
use Rattle.mapfile.specs.File.{FileRock}
use Rattle.planning.specs.declared.Run.{Run}
use Rattle.planning.specs.declared.Next.{Next}
use Rattle.planning.specs.declared.Next.TheVariants.{Map, Last, More}
use Rattle.field.specs.Depots.{all_zero}
use Rattle.mapfile.specs.Following.{most_bytes, FirstMap, Undecided}
use Rattle.following.specs.Promise.{Follows}
use Rattle.printing.specs.Printed.{number_room}
use Rattle.printing.specs.Parts.{Puts}
use Rattle.planning.specs.Promise.{most_maps, MapLines, Ends}

-- A run before its first map.
abbrev pub begun : Run
begun = record { maps = 0; sums = all_zero }

-- Room for the longest text of a step: four lines of four numbers.
abbrev pub line_room : ℕ
line_room = 4 * number_room

abbrev pub step_room : ℕ
step_room = 4 * line_room

-- What a run comes to at most: no sum is more than every crossing of the largest map, for each of
-- the lines so far. So the sums, which have 64 bits, cannot overflow.
pub record Tally (r : Run) : Type 0 where
  pub few : r.maps ≤ most_maps
  pub sums : AtMost (r.maps * (4 * (side * side))) r.sums

-- The run goes on by the map that stands first: it has so many of the bytes at hand, and the text
-- is its lines.
pub record OneMap (r : Run) (src : List ℕ) (ended : Bool) (used : ℕ) (next : Run) (text : List ℕ) : Type 0 where
  pub w : ℕ
  pub h : ℕ
  pub bits : List ℕ
  pub before : r.maps < most_maps
  pub counted : next.maps ≡ r.maps + 1
  pub within : used ≤ length src
  pub first : (t : List ℕ) → Follows ended t → FirstMap (src ++ t) w h bits (drop used src ++ t)
  pub lines : MapLines w h (Closed (FileRock w h bits) w h) r.sums next.sums text

-- The run ends, and the text is its last line.
abbrev pub RunEnds : Run → List ℕ → Bool → List ℕ → Type 0
RunEnds r src ended text = (t : List ℕ) → Follows ended t → Ends r.maps r.sums (src ++ t) text

-- Nothing can be said yet: bytes may follow, and there are none at hand or they neither end a map
-- nor show a fault. There are few enough of them that one byte more can be held.
pub record NotYet (r : Run) (src : List ℕ) (ended : Bool) : Type 0 where
  pub goes_on : ended ≡ false
  pub few : length src ≤ most_bytes
  pub open_yet : (src ≡ []) ⊎ ((r.maps < most_maps) × Undecided src)

-- What a step says and what it leaves in the output: its text at the front, and all else as it was.
abbrev pub Stepped : Run → List ℕ → Bool → List ℕ → List ℕ → Next → Type 0
Stepped r src ended out after (Map used end next) = Puts (OneMap r src ended used next) out 0 after end
Stepped r src ended out after (Last end) = Puts (RunEnds r src ended) out 0 after end
Stepped r src ended out after More = NotYet r src ended × (after ≡ out)
