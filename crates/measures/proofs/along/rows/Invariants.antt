-- `along::rows` meets its contract. The invariant: the rows passed have their running numbers.
use Rattle.measures.proofs.Rows.{RowsPassed}
use Rattle.measures.proofs.along.rows.Given as goal

abbrev pub invariant-loop-y : goal.invariant-loop-y
invariant-loop-y l = RowsPassed l.map.w l.map.h l.end l.initial.out l.out l.y
