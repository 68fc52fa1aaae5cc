-- The rows are those of the map, the southmost first.
use Rattle.picturing.specs.Rasters.{row_of}
use Rattle.picturing.proofs.rasters.read_rows.Given as goal

abbrev pub ghost-each_row : goal.ghost-each_row
ghost-each_row a = row_of a.put.2 a.put.3.now a.put.1 a.h
