-- `read_raw` meets its contract: the raster has as many bytes as its rows, or fewer, or more.
use native.Mathlib.Omega.{arith}
use Rattle.mapfile.specs.Limits.{rows_few}
use Rattle.raster.proofs.Reading.{raw_read}
use Rattle.raster.proofs.raw.read_raw.Goals as goal

pub overflow_mul-size : goal.overflow_mul-size
overflow_mul-size c = rw c.row_bytes.ensures (omega (arith, rows_few c.args.map.within))

pub returns : goal.returns
returns c =
    raw_read _ _ _ _ _ (rw (← c.row_bytes.ensures) (omega arith)) c.read_rows.ensures
