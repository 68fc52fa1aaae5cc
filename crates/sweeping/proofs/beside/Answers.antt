-- `beside` meets its contract: the four looks are at the four neighbours.
use Rattle.sweeping.proofs.Laws.Before.{around_looked}
use Rattle.sweeping.proofs.beside.Goals as goal

pub returns : goal.returns
returns c =
    around_looked _ _ _ c.args.p _ _ _ _ _ _ _ _ c.next.ensures c.next-2.ensures c.next-3.ensures c.next-4.ensures c.look-e.ensures c.look-o.ensures c.look-n.ensures c.look-u.ensures
