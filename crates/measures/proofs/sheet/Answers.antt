-- `sheet` meets its contract: own numbers, and running numbers over them, are the distances.
use Rattle.measures.proofs.Meaning.{rows_distances, columns_distances}
use Rattle.measures.proofs.sheet.Goals as goal

pub returns-in-East : goal.returns-in-East
returns-in-East c = rw c.in-East.is (rows_distances c.args.s.map.within c.args.s.fits c.own.ensures c.rows.ensures)

pub returns-in-South : goal.returns-in-South
returns-in-South c = rw c.in-South.is (columns_distances c.args.s.map.within c.args.s.fits c.own.ensures c.rows-in-South.ensures)

pub returns-in-West : goal.returns-in-West
returns-in-West c = rw c.in-West.is (rows_distances c.args.s.map.within c.args.s.fits c.own.ensures c.rows-in-West.ensures)

pub returns-in-North : goal.returns-in-North
returns-in-North c = rw c.in-North.is (columns_distances c.args.s.map.within c.args.s.fits c.own.ensures c.rows-in-North.ensures)
