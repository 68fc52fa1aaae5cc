-- Groups of closed crossings, how many there are, and how far two are apart. C tells the closed
-- crossings.
use Rattle.std.specs.Prelude.{◌≡◌, ℕ, ◌≤◌}
use Rattle.field.specs.Map.{Near, number, dist}
use Rattle.field.specs.Labels.{Count}

-- "A group is a whole set of closed crossings connected through neighbours": a chain of neighbours
-- in C leads from (x, y) to (a, b), so that (a, b) is in the group of (x, y).
pub data Linked (C : ℕ → ℕ → Type 0) (x y : ℕ) : ℕ → ℕ → Type 0 where
  here : {a b : ℕ} → a ≡ x → b ≡ y → C a b → Linked C x y a b
  step : {a b c d : ℕ} → Linked C x y a b → Near a b c d → C c d → Linked C x y c d

-- (x, y) has the lowest number of its group. Each group has one such crossing, and no two.
pub record Lowest (w : ℕ) (C : ℕ → ℕ → Type 0) (x y : ℕ) : Type 0 where
  pub closed : C x y
  pub lowest : (a b : ℕ) → Linked C x y a b → number w x y ≤ number w a b

-- The number of groups.
abbrev pub Groups : ℕ → ℕ → (ℕ → ℕ → Type 0) → ℕ → Type 0
Groups w h C n = Count w h (Lowest w C) n

-- "two groups are as far apart as their nearest crossings, by east-west plus north-south offset":
-- the groups of (x, y) and (a, b), n hops.
pub record GroupsApart (C : ℕ → ℕ → Type 0) (x y a b n : ℕ) : Type 0 where
  pub px : ℕ
  pub py : ℕ
  pub qx : ℕ
  pub qy : ℕ
  pub p_in : Linked C x y px py
  pub q_in : Linked C a b qx qy
  pub far : dist px py qx qy ≡ n
  pub nearest : (c d e f : ℕ) → Linked C x y c d → Linked C a b e f → n ≤ dist c d e f
