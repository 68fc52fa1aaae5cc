-- `spread` meets its contract: the four neighbours are judged one after the other.
use Rattle.sweeping.proofs.Laws.Sweeping.{spread_from}
use Rattle.sweeping.proofs.spread.Goals as goal

pub returns : goal.returns
returns c =
    spread_from c.requires.on _ _ _ _ c.next.ensures c.next-2.ensures c.next-3.ensures c.next-4.ensures c.judge-a.ensures c.judge-b.ensures c.judge-c.ensures c.judge.ensures
