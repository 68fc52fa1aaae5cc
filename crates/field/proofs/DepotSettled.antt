-- Every row of the table of depots holds of the definitions: each passes a test that the checker of
-- proofs computes, and a row that passes its test holds.
use Rattle.std.specs.Prelude.{◌≡◌, refl, Bool, true, ◌&&◌, List, [], ◌∷◌, ltb, eqb}
use Rattle.std.proofs.Common.{subst, ltb-true, eqb-true}
use Rattle.field.specs.declared.Placing.{Placing}
use Rattle.field.specs.Map.{gap, no_distance, tallest}
use Rattle.field.specs.Labels.{Closed}
use Rattle.field.specs.Depots.{depot_x, depot_y, HowPlaced}
use Rattle.field.specs.DepotTable.{Row, Holds, table}
use Rattle.field.specs.Table.{RocksOn, markers_on}
use Rattle.field.specs.Workings.Tests.{and_split}
use Rattle.field.specs.Workings.Sheet.{lit, west_of, south_of, around, row, rows_from, sheet}
use Rattle.field.specs.Workings.Closing.{closing, until, sweep, next, marks}
use Rattle.field.proofs.Workings.Closing.{closing_draws}
use Rattle.field.specs.Workings.Stamping.{stamp, rock_of, stands}
use Rattle.field.proofs.Workings.Stamping.{stamp_draws}
use Rattle.field.specs.Workings.Looking.{lit_along, look, clear_of, enough_of, axis_of, open_of, assured_of}
use Rattle.field.specs.Workings.Reaching.{reach_next, reach}
use Rattle.field.specs.Workings.Placing.{total_to}
use Rattle.field.proofs.Workings.PlacingLaws.{placed_of, placed_made}
use Rattle.field.proofs.Geometry.DepotLaws.{placing_same}

-- Every row of a table holds.
pub data EveryDepot : List Row → Type 0 where
  none : EveryDepot []
  one : {r : Row} {rs : List Row} → Holds r → EveryDepot rs → EveryDepot (r ∷ rs)

-- The row's numbers are those that the working finds.
same_numbers : Placing → Placing → Bool
same_numbers p q = (eqb p.opens q.opens && eqb p.assured q.assured) && (eqb p.driven q.driven && eqb p.stranded q.stranded)

same_numbers_lem : (p q : Placing) → same_numbers p q ≡ true → p ≡ q
unfolding same_numbers
same_numbers_lem p q e =
    let f = and_split _ _ e in
    let g = and_split _ _ f.0 in
    let k = and_split _ _ f.1 in
    placing_same (eqb-true _ _ g.0) (eqb-true _ _ g.1) (eqb-true _ _ k.0) (eqb-true _ _ k.1)

found : Row → Placing
found r = placed_of (closing r.w r.h (stamp r.w r.h 0 (markers_on r.rocks))) r.w r.h (depot_x r.depot r.w) (depot_y r.depot r.h)

passes : Row → Bool
passes r =
    (ltb (depot_x r.depot r.w) r.w && ltb (depot_y r.depot r.h) r.h) && same_numbers (found r) r.numbers

passes_holds : (r : Row) → passes r ≡ true → Holds r
unfolding passes found
passes_holds r e =
    let f = and_split _ _ e in
    let o = and_split _ _ f.0 in
    let rocks = stamp_draws 0 r.w r.h (markers_on r.rocks) in
    subst (HowPlaced r.w r.h (Closed (RocksOn r.rocks) r.w r.h) (depot_x r.depot r.w) (depot_y r.depot r.h))
    (same_numbers_lem _ _ f.1)
    (placed_made r.w r.h _ _ (closing_draws r.w r.h (RocksOn r.rocks) _ rocks) _ _
    (record { in_x = ltb-true _ _ o.0; in_y = ltb-true _ _ o.1 }))

all_pass : List Row → Bool
all_pass [] = true
all_pass (r ∷ rs) = passes r && all_pass rs

all_hold : (rs : List Row) → all_pass rs ≡ true → EveryDepot rs
unfolding all_pass
all_hold [] e = none
all_hold (r ∷ rs) e = let f = and_split _ _ e in one (passes_holds r f.0) (all_hold rs f.1)

table_passes : all_pass table ≡ true
unfolding all_pass table passes found same_numbers gap no_distance tallest lit west_of south_of around row rows_from sheet closing until sweep next marks stamp rock_of stands lit_along look clear_of enough_of axis_of open_of assured_of reach_next reach total_to placed_of
table_passes = refl

-- The rows of request 05.
pub depot_rows_hold : EveryDepot table
depot_rows_hold = all_hold table table_passes
