-- Clear distances, and whether home is assured. C tells the closed crossings.
use Rattle.std.specs.Prelude.{◌≡◌, List, [], ◌∷◌, ℕ, ◌+◌, ◌*◌, ◌<◌, ◌≤◌, length}
use Rattle.field.specs.Map.{On, at, gap, no_distance}
use Rattle.field.specs.Labels.{Open}

-- "east, south, west, north, in that order"
pub data Way : Type 0 where
  eastward southward westward northward : Way

-- (a, b) is k hops that way from (x, y), along its row or column.
abbrev pub Along : Way → ℕ → ℕ → ℕ → ℕ → ℕ → Type 0
Along eastward k x y a b = (a ≡ x + k) × (b ≡ y)
Along southward k x y a b = (a ≡ x) × (b + k ≡ y)
Along westward k x y a b = (a + k ≡ x) × (b ≡ y)
Along northward k x y a b = (a ≡ x) × (b ≡ y + k)

-- "the hops along its row or column to the nearest closed crossing that way, or 255 if there is
-- none. At a closed crossing all four are 0." "the mark becomes 65,535" (Req 07). n is the distance
-- of (x, y) that way.
pub data Clear (C : ℕ → ℕ → Type 0) (t : Way) (x y n : ℕ) : Type 0 where
  at_closed : C x y → n ≡ 0 → Clear C t x y n
  nearest : (a b : ℕ) → ¬ C x y → Along t n x y a b → C a b
      → ((k c d : ℕ) → k < n → Along t k x y c d → ¬ C c d) → Clear C t x y n
  none : ¬ C x y → ((k c d : ℕ) → Along t k x y c d → ¬ C c d) → n ≡ no_distance → Clear C t x y n

-- "For each crossing there are four distances, east, south, west, north, in that order".
pub record Distances (C : ℕ → ℕ → Type 0) (x y : ℕ) (four : List ℕ) : Type 0 where
  pub e : ℕ
  pub s : ℕ
  pub w : ℕ
  pub n : ℕ
  pub in_order : four ≡ e ∷ s ∷ w ∷ n ∷ []
  pub east : Clear C eastward x y e
  pub south : Clear C southward x y s
  pub west : Clear C westward x y w
  pub north : Clear C northward x y n

-- "for the whole map as four lent sheets of one byte a crossing"; "distances take sixteen bits"
-- (Req 07). One of the four, that of one way.
pub record DistanceSheet (w h : ℕ) (C : ℕ → ℕ → Type 0) (t : Way) (sheet : List ℕ) : Type 0 where
  pub size : length sheet ≡ h * w
  pub distance : (x y : ℕ) → On w h x y → Clear C t x y (at sheet w x y)

-- "home's distance that way is 255", with Req 07 65,535, or, as Req 02 has it, "offset at most the
-- distance": "an offset equal to home's distance is good enough, since the place itself must be
-- open."
pub data Enough (offset n : ℕ) : Type 0 where
  nothing_that_way : n ≡ no_distance → Enough offset n
  at_most : offset ≤ n → Enough offset n

-- One axis, home at m and the place at p on it; D tells home's distances on this axis, upwards and
-- downwards. "the offset from home to the place is 0, or home's distance that way is 255", with Req
-- 07 65,535, or the offset is at most that distance.
pub data Axis (D : Way → ℕ → Type 0) (up down : Way) (m p : ℕ) : Type 0 where
  level : p ≡ m → Axis D up down m p
  above : m < p → (n : ℕ) → D up n → Enough (gap m p) n → Axis D up down m p
  below : p < m → (n : ℕ) → D down n → Enough (gap m p) n → Axis D up down m p

-- "Home is *assured* for a place when both are open and, on each axis, the offset from home to the
-- place is 0, or home's distance that way is 255", with Req 07 65,535, or the offset is at most that
-- distance (Req 02).
pub record Assured (w h : ℕ) (C : ℕ → ℕ → Type 0) (hx hy x y : ℕ) : Type 0 where
  pub home : Open w h C hx hy
  pub place : Open w h C x y
  pub east_west : Axis (λ t n. Clear C t hx hy n) eastward westward hx x
  pub north_south : Axis (λ t n. Clear C t hx hy n) northward southward hy y
