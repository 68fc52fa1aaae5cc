-- A run goes on within its bounds, so that its sums never overflow: a map adds at most every
-- crossing of the largest map to each sum, four times.
use Rattle.std.specs.Prelude.{◌≡◌, refl, Bool, List, [], ℕ, ◌+◌, ◌-◌, ◌*◌, ◌<◌, ◌≤◌}
use Rattle.std.proofs.Common.{ap, arith, suc-mul, mul-le-mul_right, add-one}
use Rattle.field.specs.declared.Placing.{Placing}
use Rattle.field.specs.Map.{side, Sides}
use Rattle.field.specs.Limits.{crossing_slots, most_crossings_is}
use Rattle.field.specs.Workings.Placing.{plus, AtMost}
use Rattle.planning.specs.declared.Run.{Run}
use Rattle.planning.specs.Promise.{most_maps, MapLines}
use Rattle.planning.specs.Steps.{begun, Tally, OneMap}
use Rattle.planning.specs.Parts.{Addable, largest}
use Rattle.planning.specs.LineLaws.{placed_most}

-- The first run is within its bounds.
pub begun_tally : Tally begun
unfolding most_maps
begun_tally =
    record {
      few = omega arith;
      sums = record { opens_most = omega arith; assured_most = omega arith; driven_most = omega arith; stranded_most = omega arith };
    }

plus_most : {a b : ℕ} {p q : Placing} → AtMost a p → AtMost b q → AtMost (a + b) (plus p q)
plus_most m k = record { opens_most = omega arith; assured_most = omega arith; driven_most = omega arith; stranded_most = omega arith }

most_as : {a b : ℕ} {p : Placing} → a ≤ b → AtMost a p → AtMost b p
most_as l m = record { opens_most = omega arith; assured_most = omega arith; driven_most = omega arith; stranded_most = omega arith }

-- What the lines of one map add.
pub lines_most : {w h a : ℕ} {C : ℕ → ℕ → Type 0} {before after : Placing} {text : List ℕ} → Sides w h → MapLines w h C before after text → AtMost a before
    → AtMost (a + 4 * crossing_slots) after
lines_most s m l =
    rw m.sums
    (most_as (omega arith)
    (plus_most (plus_most (plus_most (plus_most l (placed_most s m.southwest.placed)) (placed_most s m.southeast.placed)) (placed_most s m.northwest.placed))
    (placed_most s m.northeast.placed)))

more_lines : (n : ℕ) → n * (4 * (side * side)) + 4 * crossing_slots ≡ (n + 1) * (4 * (side * side))
more_lines n = omega (arith, most_crossings_is, ap (λ (k : ℕ). k * (4 * (side * side))) (add-one n), suc-mul n (4 * (side * side)))

-- The run after a map.
pub next_tally : {r next : Run} {src text : List ℕ} {ended : Bool} {used : ℕ} → Tally r → OneMap r src ended used next text → Tally next
next_tally {r} {next} t m =
    record {
      few = omega (arith, m.before, m.counted);
      sums = most_as (omega (arith, more_lines r.maps, ap (λ (k : ℕ). k * (4 * (side * side))) m.counted))
          (lines_most (m.first [] (λ e. refl)).map.sides m.lines t.sums);
    }

-- A run before its last map has room in its sums for four lines more.
pub tally_addable : {r : Run} → Tally r → Addable 4 r.sums
unfolding most_maps
tally_addable {r} t = most_as (omega (arith, most_crossings_is, mul-le-mul_right {m = r.maps} {n = most_maps} (4 * (side * side)) t.few)) t.sums

-- The numbers of one line can be added, and then those of the others.
pub addable_now : {sums p : Placing} → Addable 1 sums → AtMost crossing_slots p → AtMost largest (plus sums p)
addable_now m k = record { opens_most = omega arith; assured_most = omega arith; driven_most = omega arith; stranded_most = omega arith }

pub addable_next : (n : ℕ) → n < 4 → {sums p : Placing} → Addable (4 - n) sums → AtMost crossing_slots p → Addable (4 - (n + 1)) (plus sums p)
addable_next n l m k = record { opens_most = omega arith; assured_most = omega arith; driven_most = omega arith; stranded_most = omega arith }

pub addable_less : (n m : ℕ) → m ≤ n → {sums : Placing} → Addable n sums → Addable m sums
addable_less n m l k = most_as (omega arith) k
