-- What the program's functions put into the output, and the room that they ask.
use Rattle.std.specs.Prelude.{◌≡◌, List, [], ◌∷◌, ◌++◌, ℕ, ◌+◌, ◌*◌, ◌<◌, ◌≤◌, length, get_or, take}
use Rattle.field.specs.Map.{side}
use Rattle.field.specs.Labels.{Closed, RockOn, Shut, Count}
use Rattle.field.specs.Groups.{Groups}
use Rattle.field.specs.declared.Labelled.{Labelled}
use Rattle.mapfile.specs.File.{FileRock}
use Rattle.printing.specs.Printed.{Line}
use Rattle.printing.specs.Parts.{NumbersLine}
use Rattle.mapfile.specs.Following.{most_bytes}
use Rattle.chart.specs.Promise.{line_room, Picture}
use Rattle.turning.specs.Turning.{MayTurn}

-- The first line: five numbers.
abbrev pub FirstLine : ℕ → ℕ → Labelled → List ℕ → Type 0
FirstLine w h r = NumbersLine (w ∷ h ∷ r.rocks ∷ r.shut ∷ r.groups ∷ [])

-- The text of a map: its first line and its picture. R tells the rocks.
pub record Shown (R : ℕ → ℕ → Type 0) (w h : ℕ) (text : List ℕ) : Type 0 where
  pub rocks : ℕ
  pub shut : ℕ
  pub groups : ℕ
  pub line : List ℕ
  pub picture : List ℕ
  pub rocks_are : Count w h (RockOn R w h) rocks
  pub shut_are : Count w h (Shut R w h) shut
  pub groups_are : Groups w h (Closed R w h) groups
  pub line_is : Line (w ∷ h ∷ rocks ∷ shut ∷ groups ∷ []) line
  pub picture_is : Picture R w h picture
  pub is : text ≡ line ++ picture

-- The text of the map whose bits the first of these are, one for each crossing.
abbrev pub BitsShown : ℕ → ℕ → List ℕ → List ℕ → Type 0
BitsShown w h bits text = Shown (FileRock w h (take (h * w) bits)) w h text

-- The bits can be stamped on the sheet, and there is room for the text of any map of this size.
pub record MapRoom (w h : ℕ) (bits sheet out : List ℕ) : Type 0 where
  pub turn : MayTurn w h bits sheet
  pub ones : (i : ℕ) → i < h * w → get_or bits i 0 ≤ 1
  pub room : line_room + h * (w + 1) ≤ length out

-- The file is no longer than the program takes, and there is room for the text of the largest map.
pub record FileRoom (file out : List ℕ) : Type 0 where
  pub limit : length file ≤ most_bytes
  pub room : line_room + side * (side + 1) ≤ length out
