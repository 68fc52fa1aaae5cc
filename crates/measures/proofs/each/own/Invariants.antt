-- `each::own` meets its contract. The invariant: the crossings passed have their own numbers.
use Prim.Native.Nat.{ℕ, ◌<◌}
use lib.ListN.{get_or}
use Rattle.measures.specs.Running.{OwnOf}
use Rattle.measures.proofs.each.own.Given as goal

abbrev pub invariant-loop-i : goal.invariant-loop-i
invariant-loop-i l = (j : ℕ) → j < l.i → OwnOf (get_or l.s j 0) (get_or l.out j 0)
