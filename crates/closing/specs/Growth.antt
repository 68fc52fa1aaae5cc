-- A map of bits grown word by word: nothing is lost, and nothing is set that is not closed.
use Rattle.std.specs.Prelude.{◌≡◌, Bool, true, false, List, [], ◌∷◌, ℕ, ◌+◌, ◌-◌, ◌*◌, ◌<◌, ◌≤◌, length, get_or}
use Rattle.field.specs.Labels.{Closed}
use Rattle.rows.specs.Layout.{spot, spot_north, spot_south, spot_east, spot_west}
use Rattle.rows.specs.Rows.{Lit, Rows, MaskAt}
use Rattle.closing.specs.Steps.{Stepped}

-- The sum of the words: it rises as bits are set.
unfoldable pub total : List ℕ → ℕ
total [] = 0
total (v ∷ c) = v + total c

-- t has all that s has, and nothing that is not closed if the rocks are what is lit in s.
pub record Grown (w h : ℕ) (s t : List ℕ) : Type 0 where
  pub rows : Rows w h t
  pub kept : (x y : ℕ) → Lit w h s x y → Lit w h t x y
  pub sound : (x y : ℕ) → Lit w h t x y → Closed (Lit w h s) w h x y
  pub up : total s ≤ total t
  pub size : length t ≡ length s

-- A step changes nothing of word j of row y.
pub record StillWord (w : ℕ) (c : List ℕ) (y j : ℕ) : Type 0 where
  pub mask : ℕ
  pub masks : MaskAt w j mask
  pub still : Stepped (get_or c (spot y j) 0) (get_or c (spot_north y j) 0) (get_or c (spot_south y j) 0) (get_or c (spot_east y j) 0) (get_or c (spot_west y j) 0) mask
      (get_or c (spot y j) 0)

-- s is grown to t, where the words of D were grown (row and word), and no other; r is 0 exactly if
-- nothing has changed, and then each of them is still.
pub record Sweeps (D : ℕ → ℕ → Type 0) (w h : ℕ) (s t : List ℕ) (r : ℕ) : Type 0 where
  pub grown : Grown w h s t
  pub same : r ≡ 0 → t ≡ s
  pub still : r ≡ 0 → (y j : ℕ) → D y j → StillWord w s y j
  pub more : (r ≡ 0 → ⊥) → total s < total t
  pub frame : (i : ℕ) → ((y j : ℕ) → D y j → i ≡ spot y j → ⊥) → get_or t i 0 ≡ get_or s i 0

-- Whose turn it is, k turns after the first of n: from the first on, or from the last back. It is its
-- own turn's turn.
abbrev pub turn_of : Bool → ℕ → ℕ → ℕ
turn_of false n k = k
turn_of true n k = n - 1 - k

-- What is asked of a row, a word that is grown.
pub record GrowingRow (w h y : ℕ) (s : List ℕ) : Type 0 where
  pub rows : Rows w h s
  pub in_y : y < h

pub record Growing (w h y j : ℕ) (s : List ℕ) : Type 0 where
  pub rows : Rows w h s
  pub in_y : y < h
  pub in_x : 64 * j < w
