-- Every list that entering and clearing reach from a well-formed one is well formed: each step
-- keeps it so. One with nothing in use is.
use Rattle.std.specs.Prelude.{◌≡◌, List, ℕ}
use Rattle.std.proofs.Common.{sym, subst, arith}
use Rattle.field.specs.declared.Marker.{Marker}
use Rattle.markers.specs.List.{WellFormed}
use Rattle.markers.specs.Reached.{Reached, start, enter, clear}
use Rattle.markers.proofs.Laws.Formed.{entered_formed, cleared_formed}

pub empty_formed : (w h : ℕ) (list : List Marker) (count : ℕ) → count ≡ 0 → WellFormed w h list count
empty_formed w h list count e =
    record {
      few = omega arith;
      lent = omega arith;
      some_id = λ k l. absurd (omega arith);
      on = λ k l. absurd (omega arith);
      rising = λ k l. absurd (omega arith);
    }

pub reached_formed : (w h : ℕ) {list : List Marker} {count : ℕ} → Reached w h list count → WellFormed w h list count
reached_formed w h (start f) = f
reached_formed w h (enter {after = after} m r i o new room few e n) =
    subst (WellFormed w h after) (sym n) (entered_formed w h (reached_formed w h r) e i o room few)
reached_formed w h (clear id r c n) = cleared_formed w h (reached_formed w h r) c n
