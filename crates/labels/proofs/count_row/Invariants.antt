-- The loop's invariant: the numbers are those of the words passed.
use Rattle.labels.specs.Counting.{CountedTo}
use Rattle.labels.proofs.count_row.Given as goal

abbrev pub invariant-loop-j : goal.invariant-loop-j
invariant-loop-j l = CountedTo l.j l.y l.p.rock.now l.p.closed.now l.sum
