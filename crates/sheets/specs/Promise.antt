-- What is asked of a sheet and of a crossing, and what is promised.
use Rattle.std.specs.Prelude.{Option, None, Some, ◌≡◌, List, ℕ, ◌*◌, ◌<◌, length, get_or}
use Rattle.field.specs.Map.{Sides, On, number}
use Rattle.field.specs.declared.Size.{Size}

-- A map within the limits, and a sheet of its size.
pub record Fits (w h : ℕ) (s : List ℕ) : Type 0 where
  pub sides : Sides w h
  pub size : length s ≡ h * w

-- A sheet and a place of its map.
pub record Asked (w h : ℕ) (s : List ℕ) (x y : ℕ) : Type 0 where
  pub fits : Fits w h s
  pub on : On w h x y

-- A crossing of a map within the limits, and its number: it is below the map's size, and sixteen
-- bits hold it.
pub record Placed (w h x y : ℕ) : Type 0 where
  pub sides : Sides w h
  pub on : On w h x y

pub record Numbered (w h x y n : ℕ) : Type 0 where
  pub is : n ≡ number w x y
  pub below : n < h * w
  pub small : n < 65536

-- Every byte is zero.
pub record Wiped (s t : List ℕ) : Type 0 where
  pub size : length t ≡ length s
  pub zeros : (i : ℕ) → get_or t i 0 ≡ 0

-- A size is made of a width and a height within the limits, and of no others.
pub record Of (w h : ℕ) (m : Size) : Type 0 where
  pub width : m.w ≡ w
  pub height : m.h ≡ h

abbrev pub IsSize : ℕ → ℕ → Option Size → Type 0
IsSize w h None = ¬ Sides w h
IsSize w h (Some m) = Of w h m
