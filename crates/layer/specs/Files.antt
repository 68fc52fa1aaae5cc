-- The second part of reading: the markers of the map whose bits the first part has are put in the
-- list.
use Rattle.std.specs.Prelude.{◌≡◌, List, ◌++◌, ℕ, ◌*◌, ◌≤◌, length, take, drop}
use Rattle.field.specs.declared.Marker.{Marker}
use Rattle.field.specs.Map.{most_markers}
use Rattle.mapfile.specs.File.{markers_of}

-- What it asks: the first bytes are the bits of the map, which has `count` rocks, no more than there
-- may be markers, and a slot for each.
pub record MayPut (list : List Marker) (count w h : ℕ) (bits : List ℕ) : Type 0 where
  pub lent : count ≤ length list
  pub all : h * w ≤ length bits
  pub counted : count ≡ length (markers_of w h (take (h * w) bits))
  pub few : count ≤ most_markers

-- "in the first slots; other slots stay"
abbrev pub put_in : List Marker → ℕ → List Marker → List Marker
put_in list count markers = take count markers ++ drop count list
