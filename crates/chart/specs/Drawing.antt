-- The picture as the code draws it, computed from the label sheet. That this is the promise's
-- picture stands in DrawingLaws.
use Rattle.std.specs.Prelude.{List, [], ◌∷◌, ◌++◌, ℕ, zero, suc, ◌+◌, ◌*◌, ◌-◌, get_or}
use Rattle.packing.specs.Packing.{pieces}

-- The sign of a label.
unfoldable pub sign_of : ℕ → ℕ
sign_of zero = 46
sign_of (suc zero) = 35
sign_of (suc (suc b)) = 111

-- The sign of the crossing in column x of a row, the first of which has the number `from`.
unfoldable pub sign_at : List ℕ → ℕ → ℕ → List ℕ
sign_at s from x = sign_of (get_or s (from + x) 0) ∷ []

-- Row y of the map, and LF.
unfoldable pub row_of : List ℕ → ℕ → ℕ → List ℕ
row_of s w y = pieces w (sign_at s (y * w)) ++ 10 ∷ []

-- The rows, the northmost first.
unfoldable pub picture_of : List ℕ → ℕ → ℕ → List ℕ
picture_of s w h = pieces h (λ r. row_of s w (h - (r + 1)))
