-- `turn` meets its contract: the rows, the southmost first, are the sheet of the raster.
use Rattle.turning.specs.TurningLaws.{rows_turned}
use Rattle.turning.proofs.turn.Goals as goal

pub returns : goal.returns
returns c = rw c.each_row.ensures (rows_turned c.args.map.within c.requires)
