-- Every row of the table of morning sheets holds of the definitions: each passes a test that the
-- checker of proofs computes, and a row that passes its test holds.
use Rattle.std.specs.Prelude.{◌≡◌, refl, Bool, true, ◌&&◌, List, [], ◌∷◌, ℕ, ◌*◌, eqb, length}
use Rattle.std.proofs.Common.{arith, eqb-true}
use Rattle.field.specs.Map.{side, Sides, gap, no_distance, tallest}
use Rattle.field.specs.Hops.{HopAnswer, Answers}
use Rattle.field.specs.Distances.{Assured}
use Rattle.field.specs.Morning.{ShownClosed, SheetTaken}
use Rattle.field.specs.Table.{Place, RocksOn, markers_on}
use Rattle.field.specs.LinesTable.{Told}
use Rattle.field.proofs.LinesSettled.{as_told, told}
use Rattle.field.specs.MorningTable.{Row, sheet, assured, hop, Holds, wide, high, drawn, table}
use Rattle.field.specs.Workings.Tests.{and_split}
use Rattle.field.specs.Workings.Sheet as Sheet
use Rattle.field.specs.Workings.Sheet.{lit, west_of, south_of, around, row, rows_from}
use Rattle.field.specs.Workings.Stamping.{stamp, rock_of, stands}
use Rattle.field.proofs.Workings.Stamping.{stamp_draws}
use Rattle.field.proofs.Workings.Corners.{every}
use Rattle.field.specs.Workings.Looking.{lit_along, look, clear_of, enough_of, axis_of, open_of, assured_of, hop_to, east_west_of, north_south_of, hop_of}
use Rattle.field.proofs.Workings.AssuredLaws.{assured_looks}
use Rattle.field.proofs.Workings.AnswerLaws.{hop_looks}
use Rattle.field.proofs.Workings.RowTests.{same_answer, same_answer_is}
use Rattle.field.proofs.Workings.MorningLaws.{kept_of, taken_of, taken_looks, shown_draws}
use Rattle.field.proofs.Geometry.Mornings.{home_hop}

-- Every row of a table holds.
pub data EveryMorning : List Row → Type 0 where
  none : EveryMorning []
  one : {r : Row} {rs : List Row} → Holds r → EveryMorning rs → EveryMorning (r ∷ rs)

table_sides : Sides wide high
unfolding side
table_sides = record { some_w = omega arith; some_h = omega arith; most_w = omega arith; most_h = omega arith }

-- The sheet is of the map's size, and it is taken, or is not.
passes_sheet : List Place → List ℕ → Bool → Bool
passes_sheet rocks s taken = eqb (length s) (high * wide) && as_told taken (taken_of wide high s (stamp wide high 0 (markers_on rocks)))

passes : Row → Bool
passes (sheet rocks north middle south taken) = passes_sheet rocks (drawn north middle south) taken
passes (assured rocks north middle south home cart said) =
    passes_sheet rocks (drawn north middle south) true
    && as_told said (assured_of (drawn north middle south) wide high home.x home.y cart.x cart.y)
passes (hop rocks north middle south home cart answer) =
    passes_sheet rocks (drawn north middle south) true
    && (assured_of (drawn north middle south) wide high home.x home.y cart.x cart.y
    && same_answer answer (hop_of (drawn north middle south) wide high home.x home.y cart.x cart.y))

sheet_holds : (rocks : List Place) (s : List ℕ) (taken : Bool) → passes_sheet rocks s taken ≡ true → Told (SheetTaken (RocksOn rocks) wide high s) taken
unfolding passes_sheet
sheet_holds rocks s taken e =
    let f = and_split _ _ e in
    let t = taken_looks wide high s (RocksOn rocks) (stamp wide high 0 (markers_on rocks)) (stamp_draws 0 wide high (markers_on rocks)) (eqb-true _ _ f.0) in
    told taken _ t.0 t.1 f.1

-- Over a sheet taken.
module _ (rocks : List Place) (s : List ℕ) (taken : SheetTaken (RocksOn rocks) wide high s) (hx hy x y : ℕ) where
  assured_holds : (said : Bool) → as_told said (assured_of s wide high hx hy x y) ≡ true → Told (Assured wide high (ShownClosed wide high s) hx hy x y) said
  assured_holds said e =
      let a = assured_looks wide high (ShownClosed wide high s) s (shown_draws wide high s taken.bytes) hx hy x y in
      told said _ a.0 a.1 e

  hop_holds : (answer : HopAnswer) → Assured wide high (ShownClosed wide high s) hx hy x y → same_answer answer (hop_of s wide high hx hy x y) ≡ true
      → Answers wide high (ShownClosed wide high s) hx hy x y answer
  hop_holds answer a e =
      (hop_looks wide high (ShownClosed wide high s) s (shown_draws wide high s taken.bytes) hx hy x y
      (home_hop (RocksOn rocks) wide high s taken table_sides hx hy a) answer).1 (same_answer_is _ _ e)

passes_holds : (r : Row) → passes r ≡ true → Holds r
unfolding passes as_told
passes_holds (sheet rocks north middle south taken) e = sheet_holds rocks (drawn north middle south) taken e
passes_holds (assured rocks north middle south home cart said) e =
    let f = and_split _ _ e in
    let t = sheet_holds rocks (drawn north middle south) true f.0 in
    (t, assured_holds rocks (drawn north middle south) t home.x home.y cart.x cart.y said f.1)
passes_holds (hop rocks north middle south home cart answer) e =
    let f = and_split _ _ e in
    let g = and_split _ _ f.1 in
    let t = sheet_holds rocks (drawn north middle south) true f.0 in
    let a = assured_holds rocks (drawn north middle south) t home.x home.y cart.x cart.y true g.0 in
    (t, a, hop_holds rocks (drawn north middle south) t home.x home.y cart.x cart.y answer a g.1)

all_pass : List Row → Bool
all_pass [] = true
all_pass (r ∷ rs) = passes r && all_pass rs

all_hold : (rs : List Row) → all_pass rs ≡ true → EveryMorning rs
unfolding all_pass
all_hold [] e = none
all_hold (r ∷ rs) e = let f = and_split _ _ e in one (passes_holds r f.0) (all_hold rs f.1)

table_passes : all_pass table ≡ true
unfolding all_pass table passes passes_sheet as_told gap no_distance tallest lit west_of south_of around row rows_from Sheet.sheet stamp rock_of stands every kept_of taken_of lit_along look clear_of enough_of axis_of open_of assured_of hop_to east_west_of north_south_of hop_of same_answer
table_passes = refl

-- The rows of request 09.
pub morning_rows_hold : EveryMorning table
morning_rows_hold = all_hold table table_passes
