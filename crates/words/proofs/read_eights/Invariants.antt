-- The loop's invariant: v has the bytes passed as bits, eight more at each turn.
use Rattle.std.proofs.Common.{◌≡◌, ◌%◌, ◌≤◌}
use Rattle.words.specs.Words.{Reads}
use Rattle.words.proofs.read_eights.Given as goal

abbrev pub invariant-loop-x : goal.invariant-loop-x
invariant-loop-x l = (l.x % 8 ≡ 0) × (l.x ≤ l.x-end) × Reads l.i l.s l.x l.v
