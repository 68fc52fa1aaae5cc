-- Crossings in raster order: the crossing in column x of the row that stands `row` rows from the
-- north is the (row * w + x)-th.
use mathlib.Core.Path.{◌≡◌}
use mathlib.Core.List.{List, [], ◌∷◌, ◌++◌}
use Prim.Native.Nat.{ℕ, ◌+◌, ◌*◌, ◌<◌}
use native.Mathlib.Numerals.{add-one}
use lib.ListN.{length, get_or, take, set}
use lib.Seq.{take-suc, take-suc-set}
use Rattle.field.specs.Workings.Sheet.{number_lt}

-- A crossing of one of the rows has a place below their number.
pub place_below : (w h row x : ℕ) → row < h → x < w → row * w + x < h * w
place_below w h row x p q = number_lt w h x row (record { in_x = q; in_y = p })

-- One element more of a list.
pub take_next : (l : List ℕ) (k : ℕ) → k < length l → take (k + 1) l ≡ take k l ++ get_or l k 0 ∷ []
take_next l k p = rw add-one (take-suc l k 0 p)

-- A byte written behind what is passed.
pub take_set : (l : List ℕ) (k v : ℕ) → k < length l → take (k + 1) (set l k v) ≡ take k l ++ v ∷ []
take_set l k v b = rw (add-one k) (take-suc-set l k v b)
