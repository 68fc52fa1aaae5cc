-- `read_rows` meets its contract: the rows, the southmost first, are the sheet of the raster.
use Rattle.picturing.specs.RasterLaws.{rows_drawn}
use Rattle.picturing.proofs.rasters.read_rows.Goals as goal

pub returns : goal.returns
returns c = rw c.each_row.ensures (rows_drawn c.requires)
