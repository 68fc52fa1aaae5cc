-- Every row of the table of drawn lists holds of the definitions: each passes a test that the
-- checker of proofs computes, and a row that passes its test holds.
use Rattle.std.specs.Prelude.{◌≡◌, refl, Bool, true, ◌&&◌, List, [], ◌∷◌, ℕ, ltb, eqb}
use Rattle.std.proofs.Common.{subst₂, ltb-true, eqb-true}
use Rattle.field.specs.Map.{tallest}
use Rattle.field.specs.Checks.{Finds}
use Rattle.field.specs.CheckTable.{Row, Holds, table}
use Rattle.field.specs.Table.{wide, high, ClosedBy}
use Rattle.field.specs.Workings.Tests.{and_split}
use Rattle.field.specs.Workings.Sheet.{lit, west_of, south_of, around, row, rows_from, sheet}
use Rattle.field.specs.Workings.Closing.{closing, until, sweep, next, marks}
use Rattle.field.specs.Workings.Stamping.{stamp, rock_of, stands}
use Rattle.field.proofs.Workings.RowTests.{rock_sheet, closed_sheet}
use Rattle.field.proofs.Workings.RowLaws.{closed_draw}
use Rattle.field.specs.Workings.Checking.{found, step_to, neighbour_of, step_of, check_from, check_of}
use Rattle.field.proofs.Workings.CheckLaws.{checked}

-- Every row of a table holds.
pub data EveryDrawing : List Row → Type 0 where
  none : EveryDrawing []
  one : {r : Row} {rs : List Row} → Holds r → EveryDrawing rs → EveryDrawing (r ∷ rs)

-- s is on the map, and the working finds what the row says.
passes : Row → Bool
passes r =
    (ltb r.s.x wide && ltb r.s.y high)
    && (eqb (check_of (closed_sheet r.rocks) wide high r.s.x r.s.y r.d.x r.d.y r.drawn).reason r.reason
    && eqb (check_of (closed_sheet r.rocks) wide high r.s.x r.s.y r.d.x r.d.y r.drawn).position r.position)

passes_holds : (r : Row) → passes r ≡ true → Holds r
unfolding passes
passes_holds r e =
    let f = and_split _ _ e in
    let o = and_split _ _ f.0 in
    let g = and_split _ _ f.1 in
    subst₂
    (λ (i j : ℕ). Finds wide high (ClosedBy r.rocks) r.s.x r.s.y r.d.x r.d.y r.drawn (found i j))
    (eqb-true _ _ g.0) (eqb-true _ _ g.1)
    (checked wide high (ClosedBy r.rocks) r.s.x r.s.y r.d.x r.d.y r.drawn (closed_sheet r.rocks)
    (closed_draw r.rocks) (record { in_x = ltb-true _ _ o.0; in_y = ltb-true _ _ o.1 }))

all_pass : List Row → Bool
all_pass [] = true
all_pass (r ∷ rs) = passes r && all_pass rs

all_hold : (rs : List Row) → all_pass rs ≡ true → EveryDrawing rs
unfolding all_pass
all_hold [] e = none
all_hold (r ∷ rs) e = let f = and_split _ _ e in one (passes_holds r f.0) (all_hold rs f.1)

table_passes : all_pass table ≡ true
unfolding all_pass table passes tallest lit west_of south_of around row rows_from sheet closing until sweep next marks stamp rock_of stands rock_sheet closed_sheet step_to neighbour_of step_of check_from check_of
table_passes = refl

-- The rows of request 01.
pub drawn_rows_hold : EveryDrawing table
drawn_rows_hold = all_hold table table_passes
