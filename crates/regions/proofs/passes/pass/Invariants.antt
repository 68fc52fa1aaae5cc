-- `passes::pass` meets its contract. The invariant: the rows nearer the end than the one that comes
-- next are passed, and no other crossing has changed.
use Rattle.regions.specs.Passes.{Pass}
use Rattle.regions.proofs.WalkLaws.{RowsTo}
use Rattle.regions.proofs.passes.pass.Given as goal

abbrev pub ghost-pass_row : goal.ghost-pass_row
ghost-pass_row g a = g.v

abbrev pub invariant-loop-k : goal.invariant-loop-k
invariant-loop-k g l = Pass l.map.w l.map.h l.end.x l.end.y (RowsTo l.end.x l.end.y l.to.x l.to.y l.k) g.v l.initial.g l.g
