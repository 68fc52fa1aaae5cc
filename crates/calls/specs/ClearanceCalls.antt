-- Lists of heights of sixteen bits.
use Rattle.std.specs.Prelude.{ℕ, ◌<◌, ◌≤◌}
use Rattle.field.specs.Map.{tallest}
use Rattle.markers.specs.List.{slot}
use Rattle.calls.specs.Rules.{LentMap}

-- "a height in centimetres, 0 to 65,535": a record's height has sixteen bits, so that every list
-- that a caller can lend is such a list (height-fits, in walks).
abbrev pub HeightsFit : LentMap → Type 0
HeightsFit m = (k : ℕ) → k < m.count → (slot m.list k).height ≤ tallest
