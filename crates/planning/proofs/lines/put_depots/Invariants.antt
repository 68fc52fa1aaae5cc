-- `put_depots`: the lines of the corners so far stand one after the other.
use Rattle.field.specs.Workings.Sheet.{Marked}
use Rattle.planning.proofs.Telling.{Going}
use Rattle.planning.proofs.lines.put_depots.Given as goal

abbrev pub invariant-loop-depot : goal.invariant-loop-depot
invariant-loop-depot l =
    let map = l.s.map in Going map.w map.h (Marked l.s.cells.now map.w map.h) l.fn.sums l.initial.out l.depot-index l.told l.out
