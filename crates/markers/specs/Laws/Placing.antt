-- Where an id stands or belongs, searched by halves: every id below lo is less than it, every id
-- from hi on is at least it. The ids rise, so the one in the middle settles all on one side of it.
-- The k-th id is f k, however the list is lent.
use Rattle.std.specs.Prelude.{ℕ, ◌+◌, ◌<◌, ◌≤◌}
use Rattle.std.proofs.Common.{arith}
use Rattle.markers.specs.Laws.Rising.{Rises, rises_le}

pub record Placing (f : ℕ → ℕ) (count id lo hi : ℕ) : Type 0 where
  pub order : lo ≤ hi
  pub upto : hi ≤ count
  pub lower : (k : ℕ) → k < lo → f k < id
  pub higher : (k : ℕ) → hi ≤ k → k < count → id ≤ f k

pub placing_start : (f : ℕ → ℕ) (count id : ℕ) → Placing f count id 0 count
placing_start f count id =
    record { order = omega arith; upto = omega arith; lower = λ k l. absurd (omega arith); higher = λ k l m. absurd (omega arith) }

pub placing_up : {f : ℕ → ℕ} {count id lo hi : ℕ} (mid : ℕ) → Rises f count → mid < hi → f mid < id → Placing f count id lo hi
    → Placing f count id (mid + 1) hi
placing_up {f} {count} mid r l below p =
    record {
      order = omega arith;
      upto = p.upto;
      lower = λ k m. omega (arith, rises_le f count r k mid (omega arith) (omega (arith, p.upto)));
      higher = p.higher;
    }

pub placing_down : {f : ℕ → ℕ} {count id lo hi : ℕ} (mid : ℕ) → Rises f count → lo ≤ mid → mid < hi → id ≤ f mid → Placing f count id lo hi
    → Placing f count id lo mid
placing_down {f} {count} mid r l m above p =
    record {
      order = l;
      upto = omega (arith, p.upto);
      lower = p.lower;
      higher = λ k n o. omega (arith, rises_le f count r mid k n o);
    }
