-- `passes::pass_row` meets its contract. The invariant: the columns nearer the end than the one
-- that comes next are passed, and no other crossing has changed.
use Rattle.regions.specs.Passes.{Pass}
use Rattle.regions.proofs.WalkLaws.{RowTo}
use Rattle.regions.proofs.passes.pass_row.Given as goal

abbrev pub invariant-loop-k : goal.invariant-loop-k
invariant-loop-k g l = Pass l.map.w l.map.h l.end.x l.end.y (RowTo l.end.x l.to.x l.k l.to.y) g.v l.initial.g l.g
