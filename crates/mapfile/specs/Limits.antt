-- What the map's limits bound in a map file.
use Rattle.std.specs.Prelude.{ℕ, ◌*◌, ◌≤◌}
use Rattle.std.proofs.Common.{arith, mul-le-mul_left}
use Rattle.field.specs.Map.{Sides}
use Rattle.field.specs.Limits.{crossing_slots, crossings_few}
use Rattle.mapfile.specs.Raster.{row_bytes}

-- Packed rows have no more bytes than the map has crossings.
row_few : {w : ℕ} → 1 ≤ w → row_bytes w ≤ w
unfolding row_bytes
row_few l = omega arith

pub rows_few : {w h : ℕ} → Sides w h → h * row_bytes w ≤ crossing_slots
rows_few {w} {h} s = omega (arith, crossings_few s, mul-le-mul_left h (row_few s.some_w))
