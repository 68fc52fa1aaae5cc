-- `along::rows` meets its contract. The invariant: the rows passed have their running numbers.
use native.Mathlib.Omega.{arith}
use Rattle.measures.proofs.Rows.{rows_more}
use Rattle.measures.proofs.along.rows.Goals as goal

pub loop-y-preserved : goal.loop-y-preserved
loop-y-preserved c = rows_more (omega arith) c.loop-y.invariant c.row.ensures
