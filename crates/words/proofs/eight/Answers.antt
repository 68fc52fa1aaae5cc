-- `words::eight` meets its contract. Eight bytes of 0 and 1, four folded between four, are gathered
-- into bits.
use Rattle.words.proofs.Laws.Eights.{eight_law}
use Rattle.words.proofs.eight.Goals as goal

pub returns : goal.returns
returns c = eight_law _ _ c.requires.ones c.four-a.ensures c.four-b.ensures c.gather.ensures
