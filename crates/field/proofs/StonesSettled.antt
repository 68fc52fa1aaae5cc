-- Every row of the table of stones holds of the definitions: each passes a test that the checker of
-- proofs computes, and a row that passes its test holds.
use Rattle.std.specs.Prelude.{◌≡◌, refl, Bool, true, ◌&&◌, List, [], ◌∷◌, ℕ, eqb}
use Rattle.std.proofs.Common.{sym, subst, eqb-true}
use Rattle.field.specs.Map.{tallest}
use Rattle.field.specs.Labels.{sum_to, Closed, closed_on_map, closed_stable}
use Rattle.field.specs.Groups.{Groups}
use Rattle.field.specs.Table.{wide, high, picture}
use Rattle.field.specs.StonesTable.{stones_from, Row, RocksFor, Holds, table}
use Rattle.field.specs.Workings.Tests.{and_split}
use Rattle.field.specs.Workings.Sheet.{lit, west_of, south_of, around, row, rows_from, sheet}
use Rattle.field.specs.Workings.Closing.{closing, until, sweep, next, marks}
use Rattle.field.proofs.Workings.Closing.{closing_draws}
use Rattle.field.specs.Workings.Stamping.{stamp, rock_of, stands}
use Rattle.field.proofs.Workings.Stamping.{stamp_draws}
use Rattle.field.proofs.Workings.Labelling.{labelling, labels_from, labels_labelling}
use Rattle.field.proofs.Workings.Counting.{tally}
use Rattle.field.proofs.Workings.Corners.{corner_of, groups_of, groups_look}
use Rattle.field.proofs.Workings.RowTests.{same, same_is}

-- Every row of a table holds.
pub data EveryStone : List Row → Type 0 where
  none : EveryStone []
  one : {r : Row} {rs : List Row} → Holds r → EveryStone rs → EveryStone (r ∷ rs)

rock_sheet : Row → List ℕ
rock_sheet r = stamp wide high r.clearance (stones_from 1 r.stones)

passes : Row → Bool
passes r =
    same (picture r.rocks r.shut) (labelling wide high (rock_sheet r))
    && eqb r.groups (groups_of (closing wide high (rock_sheet r)) wide high)

passes_holds : (r : Row) → passes r ≡ true → Holds r
unfolding passes rock_sheet
passes_holds r e =
    let f = and_split _ _ e in
    let R = RocksFor r in
    let d = stamp_draws r.clearance wide high (stones_from 1 r.stones) in (
      (labels_labelling R wide high _ d (picture r.rocks r.shut)).1 (same_is _ _ f.0),
      subst (Groups wide high (Closed R wide high)) (sym (eqb-true _ _ f.1))
          (groups_look wide high (Closed R wide high) _ (closing_draws wide high R _ d) (closed_on_map R wide high) (closed_stable R wide high)),
    )

all_pass : List Row → Bool
all_pass [] = true
all_pass (r ∷ rs) = passes r && all_pass rs

all_hold : (rs : List Row) → all_pass rs ≡ true → EveryStone rs
unfolding all_pass
all_hold [] e = none
all_hold (r ∷ rs) e = let f = and_split _ _ e in one (passes_holds r f.0) (all_hold rs f.1)

table_passes : all_pass table ≡ true
unfolding all_pass table passes rock_sheet tallest sum_to lit west_of south_of around row rows_from sheet closing until sweep next marks stamp rock_of stands labelling labels_from tally corner_of groups_of same
table_passes = refl

-- The rows of request 08.
pub stones_rows_hold : EveryStone table
stones_rows_hold = all_hold table table_passes
