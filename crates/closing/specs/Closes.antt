-- The promise of closing; and the marks of the rows that have to be looked at.
use Rattle.std.specs.Prelude.{◌≡◌, List, ℕ, ◌+◌, ◌*◌, ◌<◌, ◌≤◌, length, get_or}
use Rattle.field.specs.Labels.{Closed}
use Rattle.rows.specs.Rows.{Lit, Rows}
use Rattle.closing.specs.Growth.{StillWord, Sweeps}

-- What is lit in t are the closed crossings, if the rocks are what is lit in s.
pub record Closes (w h : ℕ) (s t : List ℕ) : Type 0 where
  pub rows : Rows w h t
  pub sound : (x y : ℕ) → Lit w h t x y → Closed (Lit w h s) w h x y
  pub complete : (x y : ℕ) → Closed (Lit w h s) w h x y → Lit w h t x y
  pub size : length t ≡ length s

-- The mark of row y stands in f at y + 1. A row that is not marked is one that a step does not
-- change.
pub record Marks (w h : ℕ) (c f : List ℕ) : Type 0 where
  pub long : h + 2 ≤ length f
  pub calm : (y : ℕ) → y < h → get_or f (y + 1) 0 ≡ 0 → (j : ℕ) → 64 * j < w → StillWord w c y j

pub record LookingAll (w h : ℕ) (c f : List ℕ) : Type 0 where
  pub rows : Rows w h c
  pub marks : Marks w h c f

pub record LookingRow (w h y : ℕ) (c f : List ℕ) : Type 0 where
  pub rows : Rows w h c
  pub marks : Marks w h c f
  pub in_y : y < h

-- s and its marks f are grown to t and its marks g.
pub record Looks (D : ℕ → ℕ → Type 0) (w h : ℕ) (s f t g : List ℕ) (r : ℕ) : Type 0 where
  pub sweeps : Sweeps D w h s t r
  pub marks : Marks w h t g
