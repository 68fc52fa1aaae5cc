-- What a call answers and what it leaves in lent memory, by the number that it gave. Askings are
-- answered over any rocks R or closed crossings C: what is said here of a lent map's rocks is said
-- in the same words of those that are stamped on a sheet. A primed name is what the call leaves.
use Rattle.std.specs.Prelude.{◌≡◌, false, List, [], ◌∷◌, ◌++◌, ◌⊎◌, ℕ, ◌+◌, ◌*◌, ◌≤◌, length, get_or, take, drop}
use Rattle.field.specs.declared.Marker.{Marker}
use Rattle.field.specs.Map.{dist}
use Rattle.field.specs.Refusals.{no_slot, end_closed, no_drive}
use Rattle.field.specs.Labels.{RockOn, Closed, Shut, LabelSheet, Count}
use Rattle.field.specs.Groups.{Groups}
use Rattle.field.specs.Distances.{Way, DistanceSheet}
use Rattle.field.specs.Hops.{HopAnswer, there, one, two, Answers}
use Rattle.field.specs.Drives.{RegionSheet}
use Rattle.field.specs.Chooser.{Driven}
use Rattle.mapfile.specs.File.{MapFile, markers_of, FileFault, NoSlot}
use Rattle.mapfile.specs.Written.{Written}
use Rattle.calls.specs.LentMap.{LentMap, lent_list}
use Rattle.calls.specs.declared.Counted.{Counted}
use Rattle.calls.specs.declared.Labelling.{Labelling}
use Rattle.calls.specs.declared.Four.{Four}
use Rattle.calls.specs.declared.Assurance.{Assurance}
use Rattle.calls.specs.declared.Homeward.{Homeward}
use Rattle.calls.specs.declared.Drove.{Drove}
use Rattle.calls.specs.declared.ReadMap.{ReadMap}
use Rattle.calls.specs.declared.WroteMap.{WroteMap}

-- "A refusal returns its number only": zeros stand beside it, and "no" for yes or no.
abbrev pub no_count : ℕ → Counted
no_count n = record { refusal = n; count = 0 }

abbrev pub no_labelling : ℕ → Labelling
no_labelling n = record { refusal = n; rocks = 0; shut = 0; groups = 0 }

abbrev pub no_four : ℕ → Four
no_four n = record { refusal = n; four = 0 ∷ 0 ∷ 0 ∷ 0 ∷ [] }

abbrev pub no_assurance : ℕ → Assurance
no_assurance n = record { refusal = n; assured = false }

abbrev pub no_hop : ℕ → Homeward
no_hop n = record { refusal = n; hops = 0; x = 0; y = 0; a = 0; b = 0 }

abbrev pub no_crossings : ℕ → Drove
no_crossings n = record { refusal = n; length = 0 }

abbrev pub no_map : ℕ → ReadMap
no_map n = record { refusal = n; width = 0; height = 0; count = 0 }

abbrev pub no_bytes : ℕ → WroteMap
no_bytes n = record { refusal = n; bytes = 0 }

-- "refusals 1 to 7 ... change no lent byte. At 8, 9, 10 and 11 a lent label sheet holds the
-- labels".
abbrev pub Early : ℕ → Type 0
Early n = (1 ≤ n) × (n ≤ no_slot)

-- The label sheet after an asking that gave n.
pub record LabelsAfter (R : ℕ → ℕ → Type 0) (w h n : ℕ) (labels labels' : List ℕ) : Type 0 where
  pub kept : Early n → labels' ≡ labels
  pub labelled : ¬ Early n → LabelSheet R w h labels'

-- "the numbers of rocks' crossings, shut crossings and groups"
pub record LabelNumbers (R : ℕ → ℕ → Type 0) (w h : ℕ) (r : Labelling) : Type 0 where
  pub rocks : Count w h (RockOn R w h) r.rocks
  pub shut : Count w h (Shut R w h) r.shut
  pub groups : Groups w h (Closed R w h) r.groups

-- A lent sheet of distances, that of one way.
pub record DistancesAfter (w h : ℕ) (C : ℕ → ℕ → Type 0) (way : Way) (n : ℕ) (sheet sheet' : List ℕ) : Type 0 where
  pub kept : ¬ (n ≡ 0) → sheet' ≡ sheet
  pub filled : n ≡ 0 → DistanceSheet w h C way sheet'

-- "The answer names every permitted hop, the east-west one first. At home there is none, and the
-- answer is "there"." Document 01's values for each answer: how many crossings it names, and the
-- crossings.
abbrev pub homeward : HopAnswer → Homeward
homeward there = record { refusal = 0; hops = 0; x = 0; y = 0; a = 0; b = 0 }
homeward (one x y) = record { refusal = 0; hops = 1; x = x; y = y; a = 0; b = 0 }
homeward (two x y a b) = record { refusal = 0; hops = 2; x = x; y = y; a = a; b = b }

pub record HopsNamed (w h : ℕ) (C : ℕ → ℕ → Type 0) (hx hy x y : ℕ) (r : Homeward) : Type 0 where
  pub answer : HopAnswer
  pub answers : Answers w h C hx hy x y answer
  pub is : r ≡ homeward answer

-- "the region sheet is unchanged at 8, all 0 at 9, the region at 10", and unchanged at every lower
-- number
pub record RegionAfter (w h : ℕ) (C : ℕ → ℕ → Type 0) (sx sy dx dy n : ℕ) (region region' : List ℕ) : Type 0 where
  pub kept : (1 ≤ n) × (n ≤ end_closed) → region' ≡ region
  pub size : n ≡ no_drive → length region' ≡ h * w
  pub zeros : n ≡ no_drive → (i : ℕ) → get_or region' i 0 ≡ 0
  pub made : ¬ ((1 ≤ n) × (n ≤ no_drive)) → RegionSheet w h C sx sy dx dy region'

-- "the route buffer and the state are unchanged" at a refusal, and no crossing is filled; else the
-- route's front, so many crossings, is the chooser's drive from the state lent. "The rest of the
-- buffer is unchanged."
pub record RouteAfter (w h : ℕ) (C : ℕ → ℕ → Type 0) (sx sy dx dy n crossings : ℕ) (route : List ℕ) (state : ℕ) (route' : List ℕ) (state' : ℕ) : Type 0 where
  pub none : ¬ (n ≡ 0) → crossings ≡ 0
  pub kept : ¬ (n ≡ 0) → route' ≡ route
  pub still : ¬ (n ≡ 0) → state' ≡ state
  pub long : n ≡ 0 → crossings ≡ dist sx sy dx dy + 1
  pub driven : n ≡ 0 → Driven w h C sx sy dx dy sx sy state (take crossings route') state'
  pub rest : n ≡ 0 → drop crossings route' ≡ drop crossings route

-- "reading a file goes 12, 13 in the header, 1, then the raster: at the first fault met 13, 14 or
-- 15, then 7": n is the refusal of reading the file into so many slots.
abbrev pub ReadFault : List ℕ → ℕ → ℕ → Type 0
ReadFault file slots n = FileFault file n ⊎ (NoSlot file slots × (n ≡ no_slot))

-- "Reading makes markers with ids 1, 2, 3 and on, in raster order, in the first slots; other slots
-- stay, and width, height and the new count are handed back."
pub record MapRead (file : List ℕ) (list list' : List Marker) (r : ReadMap) : Type 0 where
  pub bits : List ℕ
  pub map : MapFile file r.width r.height bits
  pub counted : r.count ≡ length (markers_of r.width r.height bits)
  pub room : ¬ NoSlot file (length list)
  pub slots : list' ≡ markers_of r.width r.height bits ++ drop r.count list

-- The map that was read, with the list as reading leaves it.
abbrev pub read_map_lem : List Marker → ReadMap → LentMap
read_map_lem list r = lent_list list r.count r.width r.height

-- "The number of bytes written is handed back; bytes past the end stay."
pub record MapWritten (w h : ℕ) (R : ℕ → ℕ → Type 0) (out out' : List ℕ) (r : WroteMap) : Type 0 where
  pub file : List ℕ
  pub written : Written w h R file
  pub counted : r.bytes ≡ length file
  pub is : out' ≡ file ++ drop (length file) out
