-- Every row of the table of crossing lines holds of the definitions: each passes a test that the
-- checker of proofs computes, and a row that passes its test holds.
use Rattle.std.specs.Prelude.{◌≡◌, refl, Bool, true, false, not, ◌&&◌, List, [], ◌∷◌, ℕ, ltb, eqb}
use Rattle.std.proofs.Common.{sym, ◌∙◌, eqb-true}
use Rattle.std.proofs.lemmas.Bool.{false≢true, not-true}
use Rattle.field.specs.Map.{gap, no_distance, tallest}
use Rattle.field.specs.Drives.{HasDrive, InRegion}
use Rattle.field.specs.Chooser.{drawn, top}
use Rattle.field.specs.CrossingLines.{LinesAnswer, says_no, says_yes}
use Rattle.field.specs.Table.{Place, wide, high, ClosedBy}
use Rattle.field.specs.LinesTable.{Row, tests, joined, Told, Holds, table}
use Rattle.field.specs.Workings.Tests.{and_split}
use Rattle.field.specs.Workings.Sheet.{lit, west_of, south_of, around, row, rows_from, sheet}
use Rattle.field.proofs.Workings.Marks.{drawn_looks}
use Rattle.field.specs.Workings.Closing.{closing, until, sweep, next, marks}
use Rattle.field.specs.Workings.Stamping.{stamp, rock_of, stands}
use Rattle.field.proofs.Workings.Corners.{every}
use Rattle.field.specs.Workings.Looking.{lit_along, look, clear_of, enough_of, axis_of, open_of, assured_of, hop_to}
use Rattle.field.proofs.Workings.AssuredLaws.{open_looks, assured_looks}
use Rattle.field.proofs.Workings.RegionLaws.{has_drive_in, region_sheet_draws}
use Rattle.field.specs.Workings.Reaching.{reach_next, reach, on_way, region_of, east_west_in, north_south_in, chosen_of, drive_of}
use Rattle.field.proofs.Workings.ReachLaws.{region_made}
use Rattle.field.proofs.Workings.RowTests.{same, same_is, rock_sheet, closed_sheet, region_sheet}
use Rattle.field.proofs.Workings.RowLaws.{closed_draw}
use Rattle.field.proofs.Workings.Crossing.{every_between, first_from, first_between, column_of, row_of, lines_of, driven_by_of}
use Rattle.field.proofs.Workings.CrossingLaws.{lines_look, driven_by_looks}

-- Every row of a table holds.
pub data EveryLine : List Row → Type 0 where
  none : EveryLine []
  one : {r : Row} {rs : List Row} → Holds r → EveryLine rs → EveryLine (r ∷ rs)

-- Two answers of the test are the same.
same_lines : LinesAnswer → LinesAnswer → Bool
same_lines says_no says_no = true
same_lines says_no (says_yes c r) = false
same_lines (says_yes c r) says_no = false
same_lines (says_yes c r) (says_yes d s) = eqb c d && eqb r s

same_lines_is : (a b : LinesAnswer) → same_lines a b ≡ true → a ≡ b
unfolding same_lines
same_lines_is says_no says_no e = refl
same_lines_is says_no (says_yes c r) e = absurd (false≢true e)
same_lines_is (says_yes c r) says_no e = absurd (false≢true e)
same_lines_is (says_yes c r) (says_yes d s) e = let f = and_split _ _ e in cc (eqb-true c d f.0, eqb-true r s f.1)

-- A yes or no as the row has it.
unfoldable pub as_told : Bool → Bool → Bool
as_told true b = b
as_told false b = not b

-- There is a shortest drive from s to d: the region has s.
has : List Place → ℕ → ℕ → ℕ → ℕ → Bool
has rocks sx sy dx dy = ltb 0 (lit (region_sheet rocks sx sy dx dy) wide high sx sy)

passes : Row → Bool
passes (tests rocks s d answer assured) =
    (open_of (closed_sheet rocks) wide high s.x s.y && open_of (closed_sheet rocks) wide high d.x d.y)
    && (same_lines answer (lines_of (closed_sheet rocks) wide high s.x s.y d.x d.y)
    && as_told assured (assured_of (closed_sheet rocks) wide high s.x s.y d.x d.y))
passes (joined rocks s d column row z route z') =
    (has rocks s.x s.y column row && has rocks column row d.x d.y)
    && (same_lines (says_yes column row) (lines_of (closed_sheet rocks) wide high s.x s.y d.x d.y)
    && (same route (driven_by_of (closed_sheet rocks) wide high s.x s.y d.x d.y column row z).route
    && eqb z' (driven_by_of (closed_sheet rocks) wide high s.x s.y d.x d.y column row z).state))

pub told : (b : Bool) {P : Type 0} (t : Bool) → (P → t ≡ true) → (t ≡ true → P) → as_told b t ≡ true → Told P b
unfolding as_told
told true t f g e = g e
told false t f g e = λ p. false≢true (sym (not-true t e) ∙ f p)

has_drive : (rocks : List Place) (sx sy dx dy : ℕ) → has rocks sx sy dx dy ≡ true → HasDrive wide high (ClosedBy rocks) sx sy dx dy
unfolding has region_sheet
has_drive rocks sx sy dx dy e =
    (has_drive_in wide high (ClosedBy rocks) sx sy dx dy).1
    ((drawn_looks wide high (InRegion wide high (ClosedBy rocks) sx sy dx dy) (region_of (closed_sheet rocks) wide high sx sy dx dy)
    (region_sheet_draws wide high (ClosedBy rocks) sx sy dx dy (region_made wide high (ClosedBy rocks) (closed_sheet rocks) (closed_draw rocks) sx sy dx dy)) sx sy).1 e)

passes_holds : (r : Row) → passes r ≡ true → Holds r
unfolding passes
passes_holds (tests rocks s d answer assured) e =
    let f = and_split _ _ e in
    let o = and_split _ _ f.0 in
    let g = and_split _ _ f.1 in
    let D = closed_draw rocks in
    let a = assured_looks wide high (ClosedBy rocks) (closed_sheet rocks) D s.x s.y d.x d.y in (
      (open_looks wide high (ClosedBy rocks) (closed_sheet rocks) D s.x s.y).1 o.0,
      (open_looks wide high (ClosedBy rocks) (closed_sheet rocks) D d.x d.y).1 o.1,
      (lines_look wide high (ClosedBy rocks) (closed_sheet rocks) D s.x s.y d.x d.y answer).1 (same_lines_is _ _ g.0),
      told assured _ a.0 a.1 g.1,
    )
passes_holds (joined rocks s d column row z route z') e =
    let f = and_split _ _ e in
    let v = and_split _ _ f.0 in
    let g = and_split _ _ f.1 in
    let k = and_split _ _ g.1 in
    let D = closed_draw rocks in (
      (lines_look wide high (ClosedBy rocks) (closed_sheet rocks) D s.x s.y d.x d.y (says_yes column row)).1 (same_lines_is _ _ g.0),
      (driven_by_looks wide high (ClosedBy rocks) (closed_sheet rocks) D s.x s.y d.x d.y column row
          (has_drive rocks s.x s.y column row v.0) (has_drive rocks column row d.x d.y v.1) z z' route).1
          (same_is _ _ k.0, eqb-true _ _ k.1),
    )

all_pass : List Row → Bool
all_pass [] = true
all_pass (r ∷ rs) = passes r && all_pass rs

all_hold : (rs : List Row) → all_pass rs ≡ true → EveryLine rs
unfolding all_pass
all_hold [] e = none
all_hold (r ∷ rs) e = let f = and_split _ _ e in one (passes_holds r f.0) (all_hold rs f.1)

table_passes : all_pass table ≡ true
unfolding all_pass table passes same_lines as_told has gap no_distance tallest drawn top lit west_of south_of around row rows_from sheet closing until sweep next marks stamp rock_of stands every lit_along look clear_of enough_of axis_of open_of assured_of hop_to reach_next reach on_way region_of east_west_in north_south_in chosen_of drive_of same rock_sheet closed_sheet region_sheet every_between first_from first_between column_of row_of lines_of driven_by_of
table_passes = refl

-- The rows of request 06.
pub lines_rows_hold : EveryLine table
lines_rows_hold = all_hold table table_passes
