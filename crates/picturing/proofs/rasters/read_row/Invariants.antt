-- After x turns the first x numbers of the raster stand at the front of the part.
use Rattle.std.proofs.Common.{◌≡◌, take}
use Rattle.picturing.specs.Rasters.{numbers_of}
use Rattle.picturing.proofs.rasters.read_row.Given as goal

abbrev pub invariant-loop-x : goal.invariant-loop-x
invariant-loop-x l = take l.x l.part ≡ numbers_of l.depth l.raster l.x
