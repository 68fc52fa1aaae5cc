-- `bit_at` meets its contract: a shift right is a division by a power of two, and what is left of
-- it modulo 2 is the bit.
use mathlib.Core.Path.{refl}
use Rattle.raster.specs.RasterParts.{row_bit}
use Rattle.raster.proofs.raw.bit_at.Goals as goal

pub returns : goal.returns
unfolding row_bit
returns c = refl
