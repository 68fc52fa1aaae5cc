-- `header` meets its contract: each number read goes before those that follow, and after the last
-- the one blank byte ends the header.
use lib.ListN.{length}
use Rattle.header.proofs.Counting.{Counting}
use Rattle.header.proofs.header.Given as goal

abbrev pub invariant-loop-n : goal.invariant-loop-n
invariant-loop-n l = Counting l.src l.at (length l.initial.numbers) l.numbers l.n-index l.i
