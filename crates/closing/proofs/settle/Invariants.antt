-- Every sweep but the last sets a bit, so the words' sum rises, which is bounded.
use Rattle.closing.specs.Growth.{Grown}
use Rattle.closing.specs.Closes.{Marks}
use Rattle.closing.proofs.Laws.Sweeping.{left}
use Rattle.closing.proofs.settle.Given as goal

abbrev pub invariant-sweeps : goal.invariant-sweeps
invariant-sweeps l = Grown l.map.w l.map.h l.initial.c l.c × Marks l.map.w l.map.h l.c l.f

abbrev pub decreases-sweeps : goal.decreases-sweeps
decreases-sweeps l = left l.c
