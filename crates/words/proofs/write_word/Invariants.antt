-- The loop's invariant: the bytes passed are written.
use Rattle.words.specs.Words.{WrittenAt}
use Rattle.words.proofs.write_word.Given as goal

abbrev pub invariant-loop-x : goal.invariant-loop-x
invariant-loop-x l = WrittenAt l.i l.ro l.sh l.fn.s l.s l.x
