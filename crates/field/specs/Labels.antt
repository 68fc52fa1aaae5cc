-- Labels: rock, closed, shut, open, the label sheet and its numbers.
use Rattle.std.specs.Prelude.{◌≡◌, List, ℕ, zero, suc, ◌+◌, ◌*◌, ◌<◌, length, get_or}
use Rattle.field.specs.declared.Marker.{Marker}
use Rattle.field.specs.Map.{On, OnMap, at, Near, Apart}

-- What a slot that is cleared holds: zeros.
abbrev pub blank : Marker
blank = record { id = 0; x = 0; y = 0; height = 0 }

-- "A crossing is a *rock* if at least one marker stands on it." "A marker makes its crossing a rock
-- for that cart exactly if its height is greater than the clearance" (document 02, Req 08): the
-- rocks are those of a cart with this ground clearance. The list holds the markers in use.
pub record Rock (clearance : ℕ) (list : List Marker) (x y : ℕ) : Type 0 where
  pub slot : ℕ
  pub in_use : slot < length list
  pub x_is : (get_or list slot blank).x ≡ x
  pub y_is : (get_or list slot blank).y ≡ y
  pub stops : clearance < (get_or list slot blank).height

-- "Closed crossings are the smallest set that holds all rocks and every crossing with two or more
-- closed neighbours." R tells the rocks.
pub data Closed (R : ℕ → ℕ → Type 0) (w h : ℕ) : ℕ → ℕ → Type 0 where
  rock : {x y : ℕ} → On w h x y → R x y → Closed R w h x y
  between : {x y a b c d : ℕ} → On w h x y → Near x y a b → Near x y c d → Apart a b c d
      → Closed R w h a b → Closed R w h c d → Closed R w h x y

-- C holds every crossing of the map with two or more neighbours in C.
abbrev pub Stable : ℕ → ℕ → (ℕ → ℕ → Type 0) → Type 0
Stable w h C = (x y a b c d : ℕ) → On w h x y → Near x y a b → Near x y c d → Apart a b c d → C a b → C c d → C x y

-- Closed is such a set on the map, and is contained in every set that holds the rocks and is
-- stable: it is the smallest.
module _ (R : ℕ → ℕ → Type 0) (w h : ℕ) where
  pub closed_stable : Stable w h (Closed R w h)
  closed_stable x y a b c d o n m t p q = between o n m t p q

  pub closed_on_map : OnMap w h (Closed R w h)
  closed_on_map x y (rock o r) = o
  closed_on_map x y (between o n m t p q) = o

  pub smallest : (P : ℕ → ℕ → Type 0) → ((x y : ℕ) → On w h x y → R x y → P x y) → Stable w h P → (x y : ℕ) → Closed R w h x y → P x y
  smallest P r st x y (rock o k) = r x y o k
  smallest P r st x y (between {a} {b} {c} {d} o n m t p q) =
      st x y a b c d o n m t (smallest P r st a b p) (smallest P r st c d q)

-- "All others are *open*." C tells the closed crossings.
pub record Open (w h : ℕ) (C : ℕ → ℕ → Type 0) (x y : ℕ) : Type 0 where
  pub on : On w h x y
  pub free : ¬ C x y

-- "A closed crossing without a rock is *shut*."
pub record Shut (R : ℕ → ℕ → Type 0) (w h x y : ℕ) : Type 0 where
  pub closed : Closed R w h x y
  pub bare : ¬ R x y

-- A rock's crossing of the map.
pub record RockOn (R : ℕ → ℕ → Type 0) (w h x y : ℕ) : Type 0 where
  pub on : On w h x y
  pub stone : R x y

-- "0 open, 1 rock, 2 shut": b is the label of (x, y).
pub data Label (R : ℕ → ℕ → Type 0) (w h x y b : ℕ) : Type 0 where
  is_open : b ≡ 0 → Open w h (Closed R w h) x y → Label R w h x y b
  is_rock : b ≡ 1 → RockOn R w h x y → Label R w h x y b
  is_shut : b ≡ 2 → Shut R w h x y → Label R w h x y b

-- "A label sheet has one byte a crossing, by number: 0 open, 1 rock, 2 shut."
pub record LabelSheet (R : ℕ → ℕ → Type 0) (w h : ℕ) (s : List ℕ) : Type 0 where
  pub size : length s ≡ h * w
  pub label : (x y : ℕ) → On w h x y → Label R w h x y (at s w x y)

-- f 0 + f 1 + .. + f (n - 1).
unfoldable pub sum_to : ℕ → (ℕ → ℕ) → ℕ
sum_to zero f = 0
sum_to (suc n) f = sum_to n f + f n

abbrev pub one : {P : Type 0} → Dec P → ℕ
one (yes p) = 1
one (no n) = 0

-- How many crossings of the map are in P: one for each that is. However P is decided, the number is
-- the same.
unfoldable pub count : ℕ → ℕ → (P : ℕ → ℕ → Type 0) → ((x y : ℕ) → Dec (P x y)) → ℕ
count w h P d = sum_to h (λ y. sum_to w (λ x. one (d x y)))

-- n crossings of the map are in P.
abbrev pub Count : ℕ → ℕ → (ℕ → ℕ → Type 0) → ℕ → Type 0
Count w h P n = (d : (x y : ℕ) → Dec (P x y)) × (n ≡ count w h P d)
