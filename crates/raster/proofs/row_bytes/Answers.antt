-- `row_bytes` meets its contract: rounding up is the sum with 7 first, and the quotient then.
use native.Mathlib.Omega.{arith}
use Rattle.mapfile.specs.Raster.{row_bytes}
use Rattle.raster.proofs.row_bytes.Goals as goal

pub returns : goal.returns
unfolding row_bytes
returns c = omega (arith, c.div_ceil.ensures)
