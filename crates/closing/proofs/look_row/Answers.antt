-- `closing::look_row` meets its contract. A row that is not marked is still; one that changes marks
-- the rows beside it.
use Rattle.closing.proofs.Laws.Marks.{look_calm, look_still, look_grown}
use Rattle.closing.proofs.look_row.Goals as goal

pub returns-then-f-y-eq0 : goal.returns-then-f-y-eq0
returns-then-f-y-eq0 c = look_calm c.args.map.within c.requires c.if-f-y-eq0.true

pub returns-then-d-eq0 : goal.returns-then-d-eq0
returns-then-d-eq0 c = look_still c.args.map.within c.requires c.grow_row-d.ensures c.if-d-eq0.true

pub returns : goal.returns
returns c = look_grown c.args.map.within c.requires c.grow_row-d.ensures c.if-f-y-eq0.false
