-- Chains of neighbours: both ways round, one after another, and with the map flipped over its
-- diagonal.
use Rattle.std.specs.Prelude.{◌≡◌, refl, ℕ}
use Rattle.std.proofs.Common.{sym, subst₂}
use Rattle.field.specs.Map.{On, OnMap, Near, east, west, north, south}
use Rattle.field.specs.Labels.{Stable}
use Rattle.field.specs.Groups.{Linked, here, step}
use Rattle.field.proofs.Workings.GridLaws.{near_turned}

-- What holds at (a, b) holds at (c, d), if that is the same crossing.
pub moved : (C : ℕ → ℕ → Type 0) {a b c d : ℕ} → a ≡ c → b ≡ d → C a b → C c d
moved C p q t = subst₂ C p q t

module _ {C : ℕ → ℕ → Type 0} where
  -- Both ends of a chain are in C.
  pub linked_to : {x y a b : ℕ} → Linked C x y a b → C a b
  linked_to (here p q c) = c
  linked_to (step l n c) = c

  pub linked_from : {x y a b : ℕ} → Linked C x y a b → C x y
  linked_from (here p q c) = moved C p q c
  linked_from (step l n c) = linked_from l

  -- To be in one group goes from one to the next, and both ways.
  pub linked_trans : {x y a b c d : ℕ} → Linked C x y a b → Linked C a b c d → Linked C x y c d
  linked_trans {x} {y} l (here p q c) = moved (Linked C x y) (sym p) (sym q) l
  linked_trans l (step m n c) = step (linked_trans l m) n c

  pub linked_sym : {x y a b : ℕ} → Linked C x y a b → Linked C a b x y
  linked_sym (here p q c) = here (sym p) (sym q) (moved C p q c)
  linked_sym (step l n c) = linked_trans (step (here refl refl c) (near_turned n) (linked_to l)) (linked_sym l)

-- The map flipped over its diagonal: rows become columns, so that a law of rows is a law of columns
-- too.
abbrev pub Flipped : (ℕ → ℕ → Type 0) → ℕ → ℕ → Type 0
Flipped C x y = C y x

pub near_flipped : {x y a b : ℕ} → Near x y a b → Near y x b a
near_flipped (east p q) = north q p
near_flipped (west p q) = south q p
near_flipped (north p q) = east q p
near_flipped (south p q) = west q p

pub on_flipped : {w h x y : ℕ} → On w h x y → On h w y x
on_flipped o = record { in_x = o.in_y; in_y = o.in_x }

module _ {w h : ℕ} {C : ℕ → ℕ → Type 0} where
  pub on_map_flipped : OnMap w h C → OnMap h w (Flipped C)
  on_map_flipped on x y c = on_flipped (on y x c)

  pub stable_flipped : Stable w h C → Stable h w (Flipped C)
  stable_flipped st x y a b c d o n m t p q =
      st y x b a d c (on_flipped o) (near_flipped n) (near_flipped m) (λ e. t (e.1, e.0)) p q

pub linked_flipped : {C : ℕ → ℕ → Type 0} {x y a b : ℕ} → Linked C x y a b → Linked (Flipped C) y x b a
linked_flipped (here p q c) = here q p c
linked_flipped (step l n c) = step (linked_flipped l) (near_flipped n) c
