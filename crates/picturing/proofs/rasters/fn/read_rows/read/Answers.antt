-- A row of the sheet is the row of the raster.
use Rattle.std.proofs.Common.{◌≡◌, refl, ◌+◌, ◌*◌, ◌-◌, arith, length}
use Rattle.picturing.specs.Rasters.{row_of}
use Rattle.picturing.proofs.Lending.{rest_is}
use Rattle.picturing.proofs.rasters.fn.read_rows.read.Goals as goal

pub returns : goal.returns
unfolding row_of
returns c =
    let s = c.captures in
    let row : length c.args.part.now ≡ s.w = omega arith in
    rw (c.read_row.ensures, rest_is s.raster.now ((s.h - (c.args.y + 1)) * (s.w * c.bytes.result)), c.bytes.ensures, row) refl
