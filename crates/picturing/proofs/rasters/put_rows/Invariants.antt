-- The rows are those of the map, the northmost first.
use Rattle.picturing.specs.Rasters.{raster_row}
use Rattle.picturing.proofs.rasters.put_rows.Given as goal

abbrev pub ghost-each_row : goal.ghost-each_row
ghost-each_row a = raster_row a.put.2.now a.put.1 a.h
