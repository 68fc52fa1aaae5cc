-- What the labelling program prints. "First line: width, height, rock crossings, shut crossings,
-- groups. Then rows from the north: . open, # rock, o shut. A refusal prints one line, 'refused', a
-- space and the number. A program takes at most 65,536 input bytes; of a longer input it prints
-- only 'refused long'."
use Rattle.std.specs.Prelude.{◌≡◌, List, [], ◌∷◌, ◌++◌, ℕ, ◌+◌, ◌*◌, ◌-◌, ◌<◌, ◌≤◌, length, get_or}
use Rattle.field.specs.Map.{most_markers}
use Rattle.field.specs.Refusals.{no_slot}
use Rattle.field.specs.Limits.{side_number}
use Rattle.field.specs.Labels.{Closed, RockOn, Shut, Label, Count}
use Rattle.field.specs.Groups.{Groups}
use Rattle.mapfile.specs.File.{MapFile, FileRock, markers_of, FileFault, NoSlot}
use Rattle.mapfile.specs.Following.{most_bytes}
use Rattle.printing.specs.Printed.{number_room, Printed, Line, refused, long}

-- Room for the five numbers of the first line, and for the longest text: that line and the rows of
-- the largest map.
abbrev pub line_room : ℕ
line_room = 5 * number_room

abbrev pub room : ℕ
room = line_room + side_number * (side_number + 1)

-- ". open, # rock, o shut", by the label.
pub data Sign (b c : ℕ) : Type 0 where
  open-sign : b ≡ 0 → c ≡ 46 → Sign b c
  rock_sign : b ≡ 1 → c ≡ 35 → Sign b c
  shut_sign : b ≡ 2 → c ≡ 111 → Sign b c

-- The rows from the north, each with LF after it: row r is that of y = h - 1 - r.
pub record Picture (R : ℕ → ℕ → Type 0) (w h : ℕ) (l : List ℕ) : Type 0 where
  pub size : length l ≡ h * (w + 1)
  pub sign : (r x : ℕ) → r < h → x < w → (b : ℕ) × Label R w h x (h - (r + 1)) b × Sign b (get_or l (r * (w + 1) + x) 0)
  pub end : (r : ℕ) → r < h → get_or l (r * (w + 1) + w) 0 ≡ 10

-- The refusal of a file: its fault, or 7 where its rocks are more than the markers that may be in
-- use.
pub data Refusal (file : List ℕ) (n : ℕ) : Type 0 where
  fault : FileFault file n → Refusal file n
  too_many : NoSlot file most_markers → n ≡ no_slot → Refusal file n

-- The whole text for a file.
pub data Charted (file text : List ℕ) : Type 0 where
  too_long : most_bytes < length file → text ≡ refused ++ long → Charted file text
  not_taken : (n : ℕ) (d : List ℕ) → length file ≤ most_bytes → Refusal file n → Printed n d → text ≡ refused ++ d ++ 10 ∷ [] → Charted file text
  shown : (w h rocks shut groups : ℕ) (bits line picture : List ℕ) → length file ≤ most_bytes → MapFile file w h bits
      → length (markers_of w h bits) ≤ most_markers
      → Count w h (RockOn (FileRock w h bits) w h) rocks → Count w h (Shut (FileRock w h bits) w h) shut
      → Groups w h (Closed (FileRock w h bits) w h) groups → Line (w ∷ h ∷ rocks ∷ shut ∷ groups ∷ []) line
      → Picture (FileRock w h bits) w h picture → text ≡ line ++ picture → Charted file text
