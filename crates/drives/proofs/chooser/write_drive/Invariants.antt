-- `chooser::write_drive` meets its contract. The invariant: k hops are written, and what is written
-- with the drive from the place reached is the whole drive.
use Rattle.drives.proofs.RouteLaws.{Onward}
use Rattle.drives.proofs.chooser.write_drive.Given as goal

abbrev pub invariant-loop-k : goal.invariant-loop-k
invariant-loop-k l = Onward l.g.map.w l.g.map.h l.g.cells.now l.fn.from.x l.fn.from.y l.to.x l.to.y l.initial.state l.initial.route l.route l.at.x l.at.y l.state l.k
