-- The limits as the code's constants have them. Every proof that needs such a number cites it from
-- here.
use Rattle.std.specs.Prelude.{◌≡◌, refl, ℕ, ◌*◌, ◌<◌, ◌≤◌}
use Rattle.std.proofs.Common.{arith, mul-le-mul}
use Rattle.field.specs.Map.{side, most_markers, no_distance, largest_value, old_largest, old_mark, tallest, Sides}

-- The constants' numbers: SIDE, MOST_CROSSINGS, MOST_MARKERS, NO_DISTANCE, LARGEST,
-- OLD_LARGEST, OLD_MARK, TALLEST.
abbrev pub side_number : ℕ
side_number = 256

abbrev pub crossing_slots : ℕ
crossing_slots = 65536

abbrev pub marker_slots : ℕ
marker_slots = 8192

abbrev pub distance_mark : ℕ
distance_mark = 65535

abbrev pub largest_number : ℕ
largest_number = 65535

abbrev pub old_largest_number : ℕ
old_largest_number = 255

abbrev pub old_mark_number : ℕ
old_mark_number = 255

abbrev pub tallest_number : ℕ
tallest_number = 65535

pub side_is : side ≡ side_number
unfolding side
side_is = refl

pub most_markers_is : most_markers ≡ marker_slots
unfolding most_markers
most_markers_is = refl

pub no_distance_is : no_distance ≡ distance_mark
unfolding no_distance
no_distance_is = refl

pub largest_is : largest_value ≡ largest_number
unfolding largest_value
largest_is = refl

pub old_largest_is : old_largest ≡ old_largest_number
unfolding old_largest
old_largest_is = refl

pub old_mark_is : old_mark ≡ old_mark_number
unfolding old_mark
old_mark_is = refl

pub tallest_is : tallest ≡ tallest_number
unfolding tallest
tallest_is = refl

-- The highest markers stop a cart of no clearance.
pub tallest_some : 0 < tallest
tallest_some = omega (arith, tallest_is)

pub most_crossings_is : side * side ≡ crossing_slots
unfolding side
most_crossings_is = refl

-- No map has more crossings.
pub crossings_few : {w h : ℕ} → Sides w h → h * w ≤ crossing_slots
crossings_few {w} {h} s = omega (arith, most_crossings_is, mul-le-mul {n₁ = h} {m₁ = w} {n₂ = side} {m₂ = side} s.most_h s.most_w)
