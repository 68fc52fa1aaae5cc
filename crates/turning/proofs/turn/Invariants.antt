-- The rows that `turn` writes are those of the map, the southmost first.
use Rattle.turning.specs.Turning.{raster_row}
use Rattle.turning.proofs.turn.Given as goal

abbrev pub ghost-each_row : goal.ghost-each_row
ghost-each_row a = raster_row a.put.2.now a.row a.h
