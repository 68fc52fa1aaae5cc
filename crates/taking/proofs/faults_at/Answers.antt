-- `faults_at` meets its contract: with the rows beside it, or zeros at the edge, the row is judged
-- as the sheet has it.
use native.Mathlib.Omega.{arith}
use Rattle.taking.proofs.Rows.{North, South, north_edge, north_row, south_edge, south_row, row_kept}
use Rattle.taking.proofs.faults_at.Goals as goal
use Rattle.taking.proofs.faults_at.Goals.{then-y-eq0, else-y-eq0, then-y-s, else-y-s}

pub returns : goal.returns
returns c =
    let a = c.args in
    let south : South a.s.map.w a.s.map.h a.s.cells.now a.y c.if-y-eq0.south.now =
    elim c.if-y-eq0.branch [
      | then-y-eq0 w ↦ rw w.south-is (south_edge a.s.map.w a.s.map.h a.s.cells.now a.none.now c.requires.zeros a.y w.if-y-eq0.true)
      | else-y-eq0 w ↦ rw w.south-is (south_row a.s.map.w a.s.map.h a.s.cells.now w.if-y-eq0.false w.row_of-south.ensures)
    ] in
    let north : North a.s.map.w a.s.map.h a.s.cells.now a.y c.if-y-s.north.now =
    elim c.if-y-s.branch [
      | then-y-s w ↦ rw w.north-is (north_row a.s.map.w a.s.map.h a.s.cells.now w.row_of-north.ensures)
      | else-y-s w ↦ rw w.north-is (north_edge a.s.map.w a.s.map.h a.s.cells.now a.none.now c.requires.zeros a.y (omega arith))
    ] in
    row_kept a.s.map.w a.s.map.h a.s.cells.now south c.row_of.ensures north c.row_faults.ensures
