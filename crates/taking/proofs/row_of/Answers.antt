-- `row_of` meets its contract: the part of the sheet from the row's first crossing on is the row.
use mathlib.Core.Path.{refl}
use Rattle.taking.proofs.Rows.{part_row}
use Rattle.taking.proofs.row_of.Goals as goal

pub returns : goal.returns
returns c =
    let a = c.args in
    part_row a.s.map.w a.s.map.h a.s.cells.now a.y _ _ a.s.fits c.requires refl refl
