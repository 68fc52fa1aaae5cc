-- `put_line`: the numbers so far stand in the output, each with a space after it.
use Rattle.printing.proofs.Lines.{Begun}
use Rattle.printing.proofs.put_line.Given as goal

abbrev pub invariant-loop-v : goal.invariant-loop-v
invariant-loop-v l = Begun l.numbers l.v-index l.initial.out l.at l.out l.end
