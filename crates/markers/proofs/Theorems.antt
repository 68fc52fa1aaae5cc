-- Demand 3, first half: after any sequence of entering and clearing, every group of closed
-- crossings is a full rectangle, any two at least three hops apart. It holds of the closed
-- crossings of any rocks, and so of each cart's; and a list that is reached is well formed.
use Rattle.std.specs.Prelude.{List, ℕ, ◌≤◌}
use Rattle.field.specs.declared.Marker.{Marker}
use Rattle.field.specs.Labels.{Rock, Closed}
use Rattle.field.specs.Groups.{Linked, GroupsApart}
use Rattle.field.specs.Geometry.Shapes.{Rectangle}
use Rattle.field.proofs.Geometry.Theorems
use Rattle.field.proofs.Workings.Marks.{drawn_dec}
use Rattle.field.specs.Workings.Closing.{closing}
use Rattle.field.proofs.Workings.Closing.{closing_draws}
use Rattle.field.specs.Workings.Stamping.{stamp}
use Rattle.field.proofs.Workings.Stamping.{stamp_draws}
use Rattle.markers.specs.List.{WellFormed, in_use_of}
use Rattle.markers.specs.Reached.{Reached}
use Rattle.markers.proofs.Laws.Reached

-- Whether a crossing is closed by a list's markers, for a cart of this clearance, can be told.
pub closed_dec : (w h clearance : ℕ) (list : List Marker) (x y : ℕ) → Dec (Closed (Rock clearance list) w h x y)
closed_dec w h clearance list =
    drawn_dec w h (Closed (Rock clearance list) w h) (closing w h (stamp w h clearance list))
    (closing_draws w h (Rock clearance list) (stamp w h clearance list) (stamp_draws clearance w h list))

module _ (w h : ℕ) {list : List Marker} {count : ℕ} (reached : Reached w h list count) where
  pub reached_formed : WellFormed w h list count
  reached_formed = Reached.reached_formed w h reached

  -- "Demands 2 and 3 then speak of one cart's rocks throughout" (document 02, Req 08).
  module _ (clearance : ℕ) where
    abbrev C : ℕ → ℕ → Type 0
    C = Closed (Rock clearance (in_use_of list count)) w h

    pub reached_rectangles : (x y : ℕ) → C x y → Rectangle C x y
    reached_rectangles = Theorems.group_rectangle (Rock clearance (in_use_of list count)) w h (closed_dec w h clearance (in_use_of list count))

    pub reached_three_apart : {x y a b n : ℕ} → GroupsApart C x y a b n → ¬ Linked C x y a b → 3 ≤ n
    reached_three_apart = Theorems.groups_three_apart (Rock clearance (in_use_of list count)) w h (closed_dec w h clearance (in_use_of list count))
