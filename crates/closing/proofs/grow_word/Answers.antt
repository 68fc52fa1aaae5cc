-- `closing::grow_word` meets its contract. What is set in the filled word is closed, so the map is
-- grown.
use Rattle.std.proofs.Common.{arith}
use Rattle.closing.proofs.Laws.Growing.{sweeps_word, room}
use Rattle.closing.proofs.grow_word.Goals as goal

pub bounds-c-i : goal.bounds-c-i
bounds-c-i c = omega (arith, room c.args.map.within c.requires)

pub bounds-c-i-2 : goal.bounds-c-i-2
bounds-c-i-2 c = omega (arith, room c.args.map.within c.requires)

pub bounds-c-i-3 : goal.bounds-c-i-3
bounds-c-i-3 c = omega (arith, room c.args.map.within c.requires)

pub bounds-c-i-4 : goal.bounds-c-i-4
bounds-c-i-4 c = omega (arith, room c.args.map.within c.requires)

pub bounds-c-i-5 : goal.bounds-c-i-5
bounds-c-i-5 c = omega (arith, room c.args.map.within c.requires)

pub bounds-c-i-6 : goal.bounds-c-i-6
bounds-c-i-6 c = omega (arith, room c.args.map.within c.requires)

pub returns : goal.returns
returns c = sweeps_word c.args.map.within c.requires c.mask_at-mask.ensures c.fill-r.ensures
