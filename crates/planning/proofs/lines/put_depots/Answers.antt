-- `put_depots` meets its contract: the four corners' lines stand one after the other, and the sums
-- go along.
use Rattle.std.proofs.Common.{◌-◌, ◌≡◌, arith}
use Rattle.planning.specs.TallyLaws.{addable_less}
use Rattle.planning.proofs.Telling.{going_none, going_next, going_all}
use Rattle.planning.proofs.lines.put_depots.Goals as goal

pub loop-depot-init : goal.loop-depot-init
loop-depot-init c = going_none c.requires.addable

pub put_depot-told-requires-clause-addable : goal.put_depot-told-requires-clause-addable
put_depot-told-requires-clause-addable c = addable_less (4 - c.loop-depot.depot-index) 1 (omega arith) c.loop-depot.invariant.addable

pub loop-depot-preserved : goal.loop-depot-preserved
loop-depot-preserved c = going_next c.loop-depot.depot-index (omega arith) c.args.s.map.within c.loop-depot.invariant c.put_depot-told.ensures

pub returns : goal.returns
returns c = let all : c.loop-depot.depot-index ≡ 4 = omega arith in going_all (rw all at c.loop-depot.invariant)
