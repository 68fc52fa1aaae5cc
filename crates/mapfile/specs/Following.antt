-- Maps that follow one another in one input (document 02, request 05): what the bytes that are left
-- begin with. "reads P4 maps one after another from standard input, as Netpbm lets them follow in
-- one file"
use Rattle.std.specs.Prelude.{◌≡◌, List, [], ◌∷◌, ◌++◌, ◌⊎◌, ℕ, ◌+◌, ◌*◌, ◌<◌, ◌≤◌, length, take}
use Rattle.field.specs.Map.{Sides, most_markers}
use Rattle.field.specs.Refusals.{bad_size, no_slot, bad_letters, bad_header, short_raster}
use Rattle.mapfile.specs.Header.{Header}
use Rattle.mapfile.specs.Raster.{row_bytes, RawRaster}
use Rattle.mapfile.specs.File.{raw, Letters, Begins, markers_of}

-- "A program takes at most 65,536 input bytes" (document 01); "The 65,536 bytes now bound each map"
-- (document 02).
unfoldable pub most_bytes : ℕ
most_bytes = 65536

-- A map stands first in the bytes: "15 is not given for bytes after a raster; they begin the next
-- map". The rest follows right after its raster.
pub record MapFirst (l : List ℕ) (w h : ℕ) (bits rest : List ℕ) : Type 0 where
  pub body : List ℕ
  pub own : List ℕ
  pub begins : Begins l raw w h body
  pub sides : Sides w h
  pub raster : RawRaster w h own bits
  pub ends : body ≡ own ++ rest

-- The refusal of the map that the bytes begin with, if they are all: "12 is given for any start but
-- P4", then in document 01's order 13 in the header, 1, 14, and 7 where its rocks are more than the
-- markers that may be in use.
pub data FirstFault (l : List ℕ) (n : ℕ) : Type 0 where
  no_letters : ((after : List ℕ) → ¬ Letters raw l after) → n ≡ bad_letters → FirstFault l n
  no_header : (after : List ℕ) → Letters raw l after → ((w h : ℕ) (body : List ℕ) → ¬ Header (w ∷ h ∷ []) after body)
      → n ≡ bad_header → FirstFault l n
  no_sides : (w h : ℕ) (body : List ℕ) → Begins l raw w h body → ¬ Sides w h → n ≡ bad_size → FirstFault l n
  cut_short : (w h : ℕ) (body : List ℕ) → Begins l raw w h body → Sides w h → length body < h * row_bytes w
      → n ≡ short_raster → FirstFault l n
  too_many : (w h : ℕ) (bits rest : List ℕ) → MapFirst l w h bits rest → most_markers < length (markers_of w h bits)
      → n ≡ no_slot → FirstFault l n

-- A fault shows in these bytes if its number is the same whatever bytes follow them.
abbrev pub Shows : List ℕ → ℕ → Type 0
Shows l n = (t : List ℕ) → FirstFault (l ++ t) n

-- They neither end the map nor show a fault.
pub record Undecided (l : List ℕ) : Type 0 where
  pub unended : (w h : ℕ) (bits rest : List ℕ) → ¬ MapFirst l w h bits rest
  pub faultless : (n : ℕ) → ¬ Shows l n

-- Of all bytes that are left: a map stands first, of at most so many bytes and markers;
pub record FirstMap (l : List ℕ) (w h : ℕ) (bits rest : List ℕ) : Type 0 where
  pub map : MapFirst l w h bits rest
  pub short : length l ≤ most_bytes + length rest
  pub few : length (markers_of w h bits) ≤ most_markers

-- or "a bad one ends the run with its refusal": the fault of all of them, or the fault that shows
-- in the first 65,536 of more;
abbrev pub FirstRefused : List ℕ → ℕ → Type 0
FirstRefused l n = ((length l ≤ most_bytes) × FirstFault l n) ⊎ ((most_bytes < length l) × Shows (take most_bytes l) n)

-- or it is too long: "past either, 'refused long' ends it".
abbrev pub FirstLong : List ℕ → Type 0
FirstLong l = (most_bytes < length l) × Undecided (take most_bytes l)

-- The three outcomes.
pub data Outcome : Type 0 where
  a_map : (w h : ℕ) (bits rest : List ℕ) → Outcome
  refused : ℕ → Outcome
  too_long : Outcome

abbrev pub FirstIs : List ℕ → Outcome → Type 0
FirstIs l (a_map w h bits rest) = FirstMap l w h bits rest
FirstIs l (refused n) = FirstRefused l n
FirstIs l too_long = FirstLong l
