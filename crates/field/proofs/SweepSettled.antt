-- Every row of the table of sweeps holds of the definitions: each passes a test that the checker of
-- proofs computes, and a row that passes its test holds.
use Rattle.std.specs.Prelude.{◌≡◌, refl, Bool, true, ◌&&◌, List, [], ◌∷◌, ℕ, eqb}
use Rattle.std.proofs.Common.{subst, eqb-true}
use Rattle.field.specs.Map.{tallest}
use Rattle.field.specs.Labels.{Shut, sum_to, Count}
use Rattle.field.specs.Sweeps.{Sweeps}
use Rattle.field.specs.SweepTable.{Row, Holds, table}
use Rattle.field.specs.Table.{RocksOn, markers_on}
use Rattle.field.specs.Workings.Tests.{bit, and_split, test_dec}
use Rattle.field.specs.Workings.Sheet.{lit, west_of, south_of, around, row, rows_from, sheet}
use Rattle.field.specs.Workings.Closing.{closing, until, sweep, next, marks}
use Rattle.field.proofs.Workings.Closing.{closing_draws}
use Rattle.field.specs.Workings.Stamping.{stamp, rock_of, stands}
use Rattle.field.proofs.Workings.Stamping.{stamp_draws}
use Rattle.field.proofs.Workings.Labelling.{alone, shut_looks}
use Rattle.field.proofs.Workings.Counting.{tally, count_tests}
use Rattle.field.specs.Workings.Sweeping.{sweeps_from, sweeps_of}
use Rattle.field.proofs.Workings.Sweeping.{sweeps_made}

-- Every row of a table holds.
pub data EverySweep : List Row → Type 0 where
  none : EverySweep []
  one : {r : Row} {rs : List Row} → Holds r → EverySweep rs → EverySweep (r ∷ rs)

stones : Row → List ℕ
stones r = stamp r.w r.h 0 (markers_on r.rocks)

shut_of : Row → ℕ
shut_of r = tally r.w r.h (λ x y. bit (alone r.w r.h (stones r) (closing r.w r.h (stones r)) x y))

passes : Row → Bool
passes r = eqb (sweeps_of r.w r.h (stones r)) r.sweeps && eqb (shut_of r) r.shut

passes_holds : (r : Row) → passes r ≡ true → Holds r
unfolding passes stones shut_of
passes_holds r e =
    let f = and_split _ _ e in
    let D = stamp_draws 0 r.w r.h (markers_on r.rocks) in
    let t = shut_looks (RocksOn r.rocks) r.w r.h _ _ D (closing_draws r.w r.h (RocksOn r.rocks) _ D) in (
      subst (Sweeps (RocksOn r.rocks) r.w r.h) (eqb-true _ _ f.0) (sweeps_made (RocksOn r.rocks) r.w r.h _ D),
      subst (Count r.w r.h (Shut (RocksOn r.rocks) r.w r.h)) (eqb-true _ _ f.1)
          (count_tests r.w r.h _ _ (λ x y o. t x y) (λ x y. test_dec _ (t x y))),
    )

all_pass : List Row → Bool
all_pass [] = true
all_pass (r ∷ rs) = passes r && all_pass rs

all_hold : (rs : List Row) → all_pass rs ≡ true → EverySweep rs
unfolding all_pass
all_hold [] e = none
all_hold (r ∷ rs) e = let f = and_split _ _ e in one (passes_holds r f.0) (all_hold rs f.1)

table_passes : all_pass table ≡ true
unfolding all_pass table passes tallest stones shut_of sum_to lit west_of south_of around row rows_from sheet closing until sweep next marks stamp rock_of stands alone tally sweeps_from sweeps_of
table_passes = refl

-- The rows of request 10.
pub sweep_rows_hold : EverySweep table
sweep_rows_hold = all_hold table table_passes
