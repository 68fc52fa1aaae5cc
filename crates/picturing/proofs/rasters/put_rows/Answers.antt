-- `put_rows` meets its contract.
use Rattle.picturing.specs.Rasters.{raster_of}
use Rattle.picturing.proofs.rasters.put_rows.Goals as goal

pub returns : goal.returns
unfolding raster_of
returns c = c.each_row.ensures
