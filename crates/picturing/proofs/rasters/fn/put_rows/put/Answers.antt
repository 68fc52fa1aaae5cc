-- A raster row is the row of the sheet, in two bytes a crossing.
use Rattle.std.proofs.Common.{ap, ◌∙◌, ℕ, List, ◌+◌, ◌*◌, ◌-◌}
use Rattle.picturing.specs.Rasters.{raster_row, bytes_from}
use Rattle.picturing.proofs.Lending.{rest_is}
use Rattle.picturing.proofs.rasters.fn.put_rows.put.Goals as goal

pub returns : goal.returns
unfolding raster_row
returns c =
    let s = c.captures in
    c.put_row.ensures ∙ ap (λ (l : List ℕ). bytes_from l s.w) (rest_is s.sheet.now ((s.h - (c.args.r + 1)) * s.w))
