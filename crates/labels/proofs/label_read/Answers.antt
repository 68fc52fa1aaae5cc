-- `labels::label_read` meets its contract. The closed crossings are found, written and counted:
-- together that is the promise.
use Rattle.labels.proofs.Laws.Labels.{labelled, putting, ready_rows, ready_closes}
use Rattle.labels.proofs.label_read.Goals as goal

pub close-requires : goal.close-requires
close-requires c = ready_rows c.requires

pub put-requires : goal.put-requires
put-requires c =
    let p = c.requires in
    putting p.stamped p.drawn (ready_closes p c.close.ensures)

pub returns : goal.returns
returns c =
    let p = c.requires in
    labelled p.stamped p.drawn (ready_closes p c.close.ensures) c.put.ensures c.count.ensures
