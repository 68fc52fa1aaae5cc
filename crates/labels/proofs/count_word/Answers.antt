-- `labels::count_word` meets its contract. The words beside a row's word are there.
use Rattle.std.proofs.Common.{arith}
use Rattle.rows.specs.Layout.{sides_w}
use Rattle.labels.proofs.count_word.Goals as goal

pub bounds-p-i : goal.bounds-p-i
bounds-p-i c = omega (arith, sides_w c.args.p.map.within, c.args.p.long_rock)

pub bounds-p-i-2 : goal.bounds-p-i-2
bounds-p-i-2 c = omega (arith, sides_w c.args.p.map.within, c.args.p.long_closed)

pub bounds-p-i-3 : goal.bounds-p-i-3
bounds-p-i-3 c = omega (arith, sides_w c.args.p.map.within, c.args.p.long_closed)

pub bounds-p-i-4 : goal.bounds-p-i-4
bounds-p-i-4 c = omega (arith, sides_w c.args.p.map.within, c.args.p.long_closed)
