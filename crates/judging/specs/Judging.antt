-- What is judged on numbers and yes-or-no answers alone, before anything is written. Rows on the
-- list go by an answer about it.
use Rattle.std.specs.Prelude.{◌≡◌, Bool, true, false, List, [], ◌∷◌, ◌⊎◌, ℕ, ◌+◌, ◌*◌, ◌<◌}
use Rattle.field.specs.Map.{Sides, On, most_markers}
use Rattle.field.specs.Refusals.{bad_size, bad_sheet, bad_list, bad_place, id_in_use, id_not_in_use, no_slot}
use Rattle.calls.specs.Rule.{Rule, rule}

-- A sheet of n bytes is of the map's size.
pub record OneFit (w h n : ℕ) : Type 0 where
  pub sides : Sides w h
  pub size : n ≡ h * w

-- Four sheets are.
pub record FourFit (w h n m k l : ℕ) : Type 0 where
  pub sides : Sides w h
  pub first : n ≡ h * w
  pub second : m ≡ h * w
  pub third : k ≡ h * w
  pub fourth : l ≡ h * w

-- The rows before anything is written, for an asking: `n` is the label sheet's length, `others`
-- tells whether every other sheet is of the map's size, and `well` whether the list is well formed.
abbrev pub asking_judged : ℕ → ℕ → ℕ → Bool → Bool → ℕ → ℕ → ℕ → ℕ → List Rule
asking_judged w h n others well x y a b =
    rule bad_size (¬ Sides w h)
    ∷ rule bad_sheet ((¬ (n ≡ h * w)) ⊎ (others ≡ false))
    ∷ rule bad_list (well ≡ false)
    ∷ rule bad_place ((¬ On w h x y) ⊎ (¬ On w h a b))
    ∷ []

-- The rows of a new marker on a good map and list: `used` tells whether its id is in use, and
-- `lent` is the list's length.
abbrev pub new_judged : Bool → ℕ → ℕ → ℕ → ℕ → ℕ → ℕ → ℕ → List Rule
new_judged used w h id x y count lent =
    rule bad_place ((¬ On w h x y) ⊎ (id ≡ 0))
    ∷ rule id_in_use (used ≡ true)
    ∷ rule no_slot ((lent < count + 1) ⊎ (most_markers < count + 1))
    ∷ []

-- The rows of clearing on a good map and list: `used` tells whether the id is in use.
abbrev pub clear_judged : Bool → List Rule
clear_judged used = rule id_not_in_use (used ≡ false) ∷ []
