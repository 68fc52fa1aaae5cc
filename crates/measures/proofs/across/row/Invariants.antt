-- `across::row` meets its contract. The invariant: the crossings passed are made.
use Rattle.measures.proofs.Columns.{Making}
use Rattle.measures.proofs.across.row.Given as goal

abbrev pub invariant-loop-x : goal.invariant-loop-x
invariant-loop-x l = Making l.map.w l.map.h l.y l.z l.initial.out l.out l.x
