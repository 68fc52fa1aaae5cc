-- `across::rows` meets its contract. The invariant: the rows passed have their running numbers, the
-- one at the edge being passed from the start.
use native.Mathlib.Omega.{arith}
use Rattle.measures.proofs.Columns.{rows_made_at}
use Rattle.measures.proofs.across.rows.Goals as goal

pub loop-k-preserved : goal.loop-k-preserved
loop-k-preserved c =
    rows_made_at (omega arith) (omega arith) c.loop-k.invariant c.place.ensures c.place-in-loop-k.ensures c.row.ensures
