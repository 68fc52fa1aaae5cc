-- `across::row` meets its contract. The invariant: the crossings passed are made.
use borrow.Author.Rules.{rules}
use Rattle.measures.proofs.Columns.{making_at}
use Rattle.measures.proofs.across.row.Goals as goal

pub loop-x-preserved : goal.loop-x-preserved
loop-x-preserved c =
    let pre = c.requires in
    making_at pre.room (search rules) pre.in_z pre.other c.loop-x.invariant c.number_of-i.ensures.is c.number_of-j.ensures.is
    c.run_on.ensures
