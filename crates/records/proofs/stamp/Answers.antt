-- `stamp` meets its contract: the sheet wiped shows no marker, and each turn adds its own.
use Rattle.std.proofs.Common.{arith, ◌<◌}
use Rattle.std.proofs.lemmas.List.{get_or-take, length-take-le}
use Rattle.field.specs.Labels.{blank}
use Rattle.records.proofs.Stamping.{stamping_on, stamping_end}
use Rattle.records.proofs.stamp.Goals as goal

pub loop-m-preserved : goal.loop-m-preserved
loop-m-preserved c =
    let below : c.loop-m.m-index < c.args.count = omega (arith, length-take-le c.args.count c.args.list.now c.requires.formed.lent) in
    stamping_on _ (c.requires.formed.on c.loop-m.m-index below) (rw (get_or-take c.args.count c.args.list.now c.loop-m.m-index blank below) at c.mark.ensures)
    c.loop-m.invariant

pub returns : goal.returns
returns c =
    let used = length-take-le c.args.count c.args.list.now c.requires.formed.lent in
    stamping_end c.requires.formed.lent (omega arith) c.loop-m.invariant
