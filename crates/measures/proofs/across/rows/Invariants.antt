-- `across::rows` meets its contract. The invariant: the rows passed have their running numbers, the
-- one at the edge being passed from the start.
use Rattle.measures.proofs.Columns.{RowsMade}
use Rattle.measures.proofs.across.rows.Given as goal

abbrev pub invariant-loop-k : goal.invariant-loop-k
invariant-loop-k l = RowsMade l.map.w l.map.h l.end l.initial.out l.out l.k
