-- `rows::put_word` meets its contract. With nothing shut the bytes are right already; else they are
-- written.
use Rattle.std.proofs.Common.{arith}
use Rattle.rows.specs.Layout.{sides_w}
use Rattle.rows.proofs.Laws.Writing.{put_skip, put_done}
use Rattle.rows.proofs.put_word.Goals as goal

pub bounds-p-i : goal.bounds-p-i
bounds-p-i c = omega (arith, sides_w c.args.p.map.within, c.args.p.long_rock)

pub bounds-p-i-2 : goal.bounds-p-i-2
bounds-p-i-2 c = omega (arith, sides_w c.args.p.map.within, c.args.p.long_closed)

pub returns-then-sh-eq0 : goal.returns-then-sh-eq0
returns-then-sh-eq0 c = put_skip c.requires c.if-sh-eq0.true

pub returns : goal.returns
returns c = put_done c.requires c.write_word.ensures
