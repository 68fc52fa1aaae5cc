-- `put_row` meets its contract: the pieces of a row are its numbers, in two bytes each.
use Rattle.picturing.specs.Rasters.{bytes_from}
use Rattle.picturing.proofs.rasters.put_row.Goals as goal

pub returns : goal.returns
unfolding bytes_from
returns c = c.each_row.ensures
