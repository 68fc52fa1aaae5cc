-- After x turns the first x numbers of the raster stand at the front of the part.
use Rattle.std.proofs.Common.{refl, ◌+◌, ◌<◌, arith, length}
use Rattle.std.proofs.lemmas.Grind.{take-set_at}
use Rattle.packing.specs.Packing.{pieces}
use Rattle.picturing.specs.Rasters.{numbers_of}
use Rattle.picturing.specs.RasterLaws.{numbers_more}
use Rattle.picturing.proofs.rasters.read_row.Goals as goal

pub loop-x-init : goal.loop-x-init
unfolding numbers_of pieces
loop-x-init c = refl

pub loop-x-preserved : goal.loop-x-preserved
loop-x-preserved c =
    let l = c.loop-x in
    let x : l.x < length l.part = omega arith in
    rw (take-set_at l.part l.x (l.x + 1) _ refl x, l.invariant, c.sample.ensures) (numbers_more c.args.depth c.args.raster.now l.x)
