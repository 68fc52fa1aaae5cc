-- The map: limits, crossings and their numbers, neighbours, distance. Every statement is over the
-- limits' names.
use Rattle.std.specs.Prelude.{◌≡◌, List, ℕ, ◌+◌, ◌*◌, ◌-◌, ◌<◌, ◌≤◌, get_or}

-- "Width and height: 1 to 64 each"; "Raise width and height to 256" (document 02, Req 07).
unfoldable pub side : ℕ
side = 256

-- "At most 4,096 are in use"; "Raise ... markers in use to 8,192" (Req 07).
unfoldable pub most_markers : ℕ
most_markers = 8192

-- "... or 255 if there is none"; "Distances reach 255, so 255 can no longer mean 'none': the mark
-- becomes 65,535 and distances take sixteen bits" (Req 07).
unfoldable pub no_distance : ℕ
no_distance = 65535

-- "PGM sheets are written with largest value 65535" (Req 07)
unfoldable pub largest_value : ℕ
largest_value = 65535

-- "Old one-byte sheets are still read, their 255 becoming 65,535": the largest value that they name
-- in the header, and their mark where there is no distance.
unfoldable pub old_largest : ℕ
old_largest = 255

unfoldable pub old_mark : ℕ
old_mark = 255

-- "Add to each marker a height in centimetres, 0 to 65,535, and to each asking the cart's ground
-- clearance." "Markers read from a map file get 65,535" (document 02, Req 08). No height and no
-- clearance is more.
unfoldable pub tallest : ℕ
tallest = 65535

-- "Width and height: 1 to 64 each", with Req 07 to 256.
pub record Sides (w h : ℕ) : Type 0 where
  pub some_w : 1 ≤ w
  pub some_h : 1 ≤ h
  pub most_w : w ≤ side
  pub most_h : h ≤ side

-- "A crossing is (x, y), x rising to the east from 0, y rising to the north from 0." Places "are
-- off the map if x is not below the width or y not below the height".
pub record On (w h x y : ℕ) : Type 0 where
  pub in_x : x < w
  pub in_y : y < h

-- "Its number is y × width + x."
abbrev pub number : ℕ → ℕ → ℕ → ℕ
number w x y = y * w + x

-- A sheet has one byte or sixteen-bit number a crossing, by number: what stands there for (x, y).
abbrev pub at : List ℕ → ℕ → ℕ → ℕ → ℕ
at s w x y = get_or s (number w x y) 0

-- "Neighbours differ by one in x or in y, never both." (a, b) is a neighbour of (x, y). What lies
-- past the edge is no crossing of the map, and no set of crossings has it: so "an edge crossing
-- simply has fewer neighbours".
pub data Near (x y a b : ℕ) : Type 0 where
  east : a ≡ x + 1 → b ≡ y → Near x y a b
  west : a + 1 ≡ x → b ≡ y → Near x y a b
  north : a ≡ x → b ≡ y + 1 → Near x y a b
  south : a ≡ x → b + 1 ≡ y → Near x y a b

-- (a, b) and (c, d) are two crossings, and not one.
abbrev pub Apart : ℕ → ℕ → ℕ → ℕ → Type 0
Apart a b c d = ((a ≡ c) × (b ≡ d)) → ⊥

-- The offset along one axis, and "their distance: east-west plus north-south offset".
unfoldable pub gap : ℕ → ℕ → ℕ
gap a b = (a - b) + (b - a)

abbrev pub dist : ℕ → ℕ → ℕ → ℕ → ℕ
dist x y a b = gap x a + gap y b

-- A set of crossings that has none off the map.
abbrev pub OnMap : ℕ → ℕ → (ℕ → ℕ → Type 0) → Type 0
OnMap w h C = (x y : ℕ) → C x y → On w h x y
