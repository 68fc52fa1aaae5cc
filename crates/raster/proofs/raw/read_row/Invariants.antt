-- `read_row` meets its contract: after x columns their bits stand from `at` on, and the rocks are
-- the ones among them.
use Rattle.raster.proofs.ReadingRows.{InRow}
use Rattle.raster.proofs.raw.read_row.Given as goal

abbrev pub invariant-loop-x : goal.invariant-loop-x
invariant-loop-x l = InRow l.row l.at l.x l.initial.bits l.bits l.rocks
