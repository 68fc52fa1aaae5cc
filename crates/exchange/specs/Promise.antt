-- What the parts of the two map-file calls promise that need no list of records. Writing: the map's
-- size is told; once all markers are stamped on a sheet of that size, the second part finds 16; and
-- once the rocks are, the third finds 17 or writes. Reading: the first part finds every refusal and
-- has the file's bits; the second part goes from rock to rock.
use Rattle.std.specs.Prelude.{◌≡◌, List, [], ◌∷◌, ℕ, ◌*◌, ◌<◌, ◌≤◌, length, get_or, Result, Ok, Err}
use Rattle.field.specs.Map.{Sides, side, most_markers}
use Rattle.field.specs.Refusals.{success, number_of}
use Rattle.field.specs.declared.Reading.{Reading}
use Rattle.field.specs.declared.refusals.Refusal.{Refusal}
use Rattle.field.specs.declared.refusals.Refusal.TheVariants.{SharedCrossing}
use Rattle.field.specs.Workings.MarkCount.{marks}
use Rattle.field.specs.Workings.Sheet.{Marked}
use Rattle.reader.specs.Promise.{MapTaken}
use Rattle.calls.specs.Rules.{Gives, output_rule}
use Rattle.calls.specs.Answers.{ReadFault, MapWritten}
use Rattle.calls.specs.Told.{wrote_map}

-- How many crossings the map has. Whatever is asked, it is at most as many as a map may have.
pub record Area (w h r : ℕ) : Type 0 where
  pub is : Sides w h → r ≡ h * w
  pub most : r ≤ side * side

-- The second part of writing, over a sheet on which `count` markers are stamped: 16 exactly where
-- there are fewer marks than markers, so that two share a crossing.
abbrev pub SharedTold : ℕ → List ℕ → Result Unit Refusal → Type 0
SharedTold count sheet (Ok _) = marks sheet ≡ count
SharedTold count sheet (Err r) = (¬ (marks sheet ≡ count)) × (r ≡ SharedCrossing)

-- The third part of writing, over a sheet on which the rocks are stamped: the whole file is written,
-- or 17 is given and no byte changed.
pub record RestWritten (w h : ℕ) (sheet out out' : List ℕ) (n : ℕ) : Type 0 where
  pub given : Gives (output_rule w h (Marked sheet w h) out ∷ []) success
  pub done : MapWritten w h (Marked sheet w h) out out' (wrote_map (Ok n))

pub record RestRefused (w h : ℕ) (sheet out out' : List ℕ) (r : Refusal) : Type 0 where
  pub given : Gives (output_rule w h (Marked sheet w h) out ∷ []) (number_of r)
  pub kept : out' ≡ out

abbrev pub WriteRest : ℕ → ℕ → List ℕ → List ℕ → List ℕ → Result ℕ Refusal → Type 0
WriteRest w h sheet out out' (Ok n) = RestWritten w h sheet out out' n
WriteRest w h sheet out out' (Err r) = RestRefused w h sheet out out' r

-- The first part of reading: the refusal of the file, or of its rocks where they find no slot, or
-- the map, whose bits are the first of the bytes handed back.
abbrev pub ReadFirst : List ℕ → ℕ → List ℕ → Result Reading Refusal → Type 0
ReadFirst file lent out (Ok m) = MapTaken file lent m.map.w m.map.h m.rocks out
ReadFirst file lent out (Err r) = ReadFault file lent (number_of r)

-- So many crossings stand before the first rock, or there is none and these are all.
pub record FirstRock (bits : List ℕ) (n : ℕ) : Type 0 where
  pub within : n ≤ length bits
  pub rock : n < length bits → ¬ (get_or bits n 0 ≡ 0)
  pub bare : (i : ℕ) → i < n → get_or bits i 0 ≡ 0

-- What the next rock asks: there is one at `from` or after it.
pub record RockAhead (bits : List ℕ) (from : ℕ) : Type 0 where
  pub place : ℕ
  pub ahead : from ≤ place
  pub below : place < length bits
  pub rock : ¬ (get_or bits place 0 ≡ 0)

-- The first rock at `from` or after it: no crossing before it is one.
pub record NextRock (bits : List ℕ) (from r : ℕ) : Type 0 where
  pub ahead : from ≤ r
  pub below : r < length bits
  pub rock : ¬ (get_or bits r 0 ≡ 0)
  pub first : (i : ℕ) → from ≤ i → i < r → get_or bits i 0 ≡ 0

-- What a rock's marker asks: its place is on the map, and there are fewer rocks before it than
-- may be in use.
pub record MayMark (w h place k : ℕ) : Type 0 where
  pub on : place < h * w
  pub few : k < most_markers
