-- The numbers of the layout. They follow from the limits: a change of the side changes `words` here
-- and WORDS in the code, and nothing else.
use Rattle.std.specs.Prelude.{ℕ, ◌+◌, ◌*◌, ◌/◌, ◌≤◌}
use Rattle.std.proofs.Common.{arith}
use Rattle.field.specs.Map.{Sides}
use Rattle.field.specs.Limits.{side_number, side_is}

-- The words of the widest row, 64 crossings to a word.
abbrev pub words : ℕ
words = (side_number + 63) / 64

-- No row is wider.
pub words_enough : side_number ≤ 64 * words
words_enough = omega arith

-- From a word to the word north of it: a row's words, and a zero word.
abbrev pub stride : ℕ
stride = words + 1

-- The first row's first word: behind a row of zeros and a zero word.
abbrev pub first : ℕ
first = stride + 1

-- All words of the largest map, with a row of zeros on either side.
abbrev pub slots : ℕ
slots = (side_number + 2) * stride

-- The index of word j of row y, and of the words on its four sides.
abbrev pub spot : ℕ → ℕ → ℕ
spot y j = y * stride + j + first

abbrev pub spot_north : ℕ → ℕ → ℕ
spot_north y j = y * stride + j + (first + stride)

abbrev pub spot_south : ℕ → ℕ → ℕ
spot_south y j = y * stride + j + 1

abbrev pub spot_east : ℕ → ℕ → ℕ
spot_east y j = y * stride + j + (first + 1)

abbrev pub spot_west : ℕ → ℕ → ℕ
spot_west y j = y * stride + j + stride

-- How many words of a row are in use.
abbrev pub words_of : ℕ → ℕ
words_of w = (w + 63) / 64

pub sides_w : {w h : ℕ} → Sides w h → w ≤ 64 * words
sides_w s = omega (arith, s.most_w, side_is)

pub sides_h : {w h : ℕ} → Sides w h → h ≤ side_number
sides_h s = omega (arith, s.most_h, side_is)
