-- `read_row` meets its contract: after x columns their bits stand from `at` on, and the rocks are
-- the ones among them.
use native.Mathlib.Omega.{arith}
use Rattle.raster.proofs.PackedRows.{bit_small, byte_there, row_ones_few}
use Rattle.raster.proofs.ReadingRows.{row_start, row_more}
use Rattle.raster.proofs.raw.read_row.Goals as goal

pub loop-x-init : goal.loop-x-init
loop-x-init c = row_start _ _ _

pub bit_at-b-requires : goal.bit_at-b-requires
bit_at-b-requires c =
    byte_there c.args.row.now c.loop-x-test.true c.requires.bytes

pub overflow_add-rocks : goal.overflow_add-rocks
overflow_add-rocks c =
    let row = c.args.row.now in
    omega (arith, bit_small row c.loop-x.x, row_ones_few row c.loop-x.x, c.bit_at-b.ensures, c.from-rocks.ensures, c.loop-x.invariant.counted)

pub loop-x-preserved : goal.loop-x-preserved
loop-x-preserved c =
    rw c.from-rocks.ensures (row_more c.loop-x.invariant (omega (arith, c.loop-x-test.true, c.requires.room)) c.bit_at-b.ensures)
