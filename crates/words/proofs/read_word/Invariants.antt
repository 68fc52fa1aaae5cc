-- The loop's invariant: v has the bytes passed as bits.
use Rattle.words.specs.Words.{Reads}
use Rattle.words.proofs.read_word.Given as goal

abbrev pub invariant-loop-x : goal.invariant-loop-x
invariant-loop-x l = Reads l.i l.s l.x l.v
