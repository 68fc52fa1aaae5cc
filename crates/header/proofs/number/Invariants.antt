-- `number` meets its contract: the loop keeps Numbering, and the value stays small enough for a
-- tenth of what a `usize` holds.
use Rattle.header.proofs.Numbering.{Numbering}
use Rattle.header.proofs.number.Given as goal

abbrev pub invariant-loop-i : goal.invariant-loop-i
invariant-loop-i l = Numbering l.src l.at l.v l.i
