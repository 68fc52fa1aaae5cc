-- `chooser::write_drive` meets its contract. The invariant: k hops are written, and what is written
-- with the drive from the place reached is the whole drive.
use Rattle.std.proofs.Common.{arith}
use Rattle.drives.proofs.RouteLaws.{onward_start, onward_choosable, onward_next, onward_end}
use Rattle.drives.proofs.chooser.write_drive.Goals as goal

pub loop-k-init : goal.loop-k-init
loop-k-init c = onward_start _ _ _ _ _ _ _ _ c.requires

pub number_of-requires : goal.number_of-requires
number_of-requires c = c.loop-k.invariant.within.on

pub choose-c-requires : goal.choose-c-requires
choose-c-requires c = onward_choosable _ _ _ _ _ _ _ _ c.loop-k.invariant (omega (arith, c.distance-n.ensures.is))

pub loop-k-preserved : goal.loop-k-preserved
loop-k-preserved c =
    onward_next _ _ _ _ _ _ _ _ c.loop-k.invariant (omega (arith, c.distance-n.ensures.is)) _ c.number_of.ensures.is c.choose-c.result c.choose-c.ensures

pub number_of-requires-2 : goal.number_of-requires-2
number_of-requires-2 c = c.loop-k.invariant.within.on

pub returns : goal.returns
returns c = onward_end _ _ _ _ _ _ _ _ c.loop-k.invariant c.distance-n.ensures.is (omega (arith, c.distance-n.ensures.is)) _ c.number_of-2.ensures.is
