-- What the theorems speak of beyond document 01's own terms: rectangles, the distance of two of
-- them, corners, and the stages of a sequence of hops. C tells the closed crossings.
use Rattle.std.specs.Prelude.{◌≡◌, ◌↔◌, ℕ, ◌+◌, ◌-◌, ◌≤◌, min, max}
use Rattle.field.specs.Groups.{Linked}
use Rattle.field.specs.Hops.{Taken}

-- Every crossing of C is one of D.
abbrev pub Among : (ℕ → ℕ → Type 0) → (ℕ → ℕ → Type 0) → Type 0
Among C D = (x y : ℕ) → C x y → D x y

-- u lies between a and b, both included.
abbrev pub Between : ℕ → ℕ → ℕ → Type 0
Between a u b = (min a b ≤ u) × (u ≤ max a b)

-- Every crossing of the rectangle between (x, y) and (a, b) is in C.
abbrev pub Filled : (ℕ → ℕ → Type 0) → ℕ → ℕ → ℕ → ℕ → Type 0
Filled C x y a b = (u v : ℕ) → Between x u a → Between y v b → C u v

-- (a, b) lies in the rectangle from (x₀, y₀) to (x₁, y₁), its edges included.
pub record Within (x₀ x₁ y₀ y₁ a b : ℕ) : Type 0 where
  pub from_west : x₀ ≤ a
  pub to_east : a ≤ x₁
  pub from_south : y₀ ≤ b
  pub to_north : b ≤ y₁

-- The group of (x, y) is a full rectangle: a crossing is in the group exactly if it lies in the
-- rectangle.
pub record Rectangle (C : ℕ → ℕ → Type 0) (x y : ℕ) : Type 0 where
  pub x₀ : ℕ
  pub x₁ : ℕ
  pub y₀ : ℕ
  pub y₁ : ℕ
  pub wide : x₀ ≤ x₁
  pub high : y₀ ≤ y₁
  pub exactly : (a b : ℕ) → Linked C x y a b ↔ Within x₀ x₁ y₀ y₁ a b

-- The hops from the nearer end of one interval to the nearer end of the other, or 0 if they meet: p
-- to q, and r to s.
unfoldable pub intervals_apart : ℕ → ℕ → ℕ → ℕ → ℕ
intervals_apart p q r s = (r - q) + (p - s)

-- How far apart two rectangles are: the gap between their x-intervals plus that between their
-- y-intervals.
abbrev pub rectangles_apart : {C : ℕ → ℕ → Type 0} {x y a b : ℕ} → Rectangle C x y → Rectangle C a b → ℕ
rectangles_apart p q = intervals_apart p.x₀ p.x₁ q.x₀ q.x₁ + intervals_apart p.y₀ p.y₁ q.y₀ q.y₁

-- A closed crossing with neither a closed west nor a closed south neighbour.
pub record Corner (C : ℕ → ℕ → Type 0) (x y : ℕ) : Type 0 where
  pub closed : C x y
  pub no_west : (a : ℕ) → a + 1 ≡ x → ¬ C a y
  pub no_south : (b : ℕ) → b + 1 ≡ y → ¬ C x b

-- Of n permitted hops from (x, y) to (a, b), the first k lead to (c, d), and the others from there
-- on.
pub record Stage (w h : ℕ) (C : ℕ → ℕ → Type 0) (hx hy x y n a b k : ℕ) : Type 0 where
  pub c : ℕ
  pub d : ℕ
  pub so_far : Taken w h C hx hy x y k c d
  pub left : Taken w h C hx hy c d (n - k) a b
