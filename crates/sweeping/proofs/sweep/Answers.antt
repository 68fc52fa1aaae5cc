-- `sweep` meets its contract: crossing after crossing of the part.
use Rattle.std.proofs.Common.{arith}
use Rattle.sweeping.proofs.Laws.Growing.{ready_few}
use Rattle.sweeping.proofs.Laws.Sweeping.{going_start, going_asks, going_on, going_end}
use Rattle.sweeping.proofs.sweep.Goals as goal

pub loop-j-init : goal.loop-j-init
loop-j-init c = going_start c.requires

pub offset_bounds-q-j : goal.offset_bounds-q-j
offset_bounds-q-j c = omega (arith, ready_few c.args.map.within c.requires.ready)

pub bounds-q-j : goal.bounds-q-j
bounds-q-j c = omega (arith, ready_few c.args.map.within c.requires.ready, c.requires.ready.room)

pub spread-n-requires : goal.spread-n-requires
spread-n-requires c = rw c.from-i.ensures (going_asks c.requires c.loop-j.invariant c.loop-j-test.true)

pub loop-j-preserved : goal.loop-j-preserved
loop-j-preserved c = going_on c.requires c.loop-j.invariant c.loop-j-test.true (rw c.from-i.ensures at c.spread-n.ensures)

pub returns : goal.returns
returns c = going_end c.loop-j-test.false c.loop-j.invariant
