-- The loop's invariant: the bytes passed are written, eight at each turn.
use Rattle.std.proofs.Common.{◌≡◌, ◌%◌, ◌≤◌}
use Rattle.words.specs.Words.{WrittenAt}
use Rattle.words.proofs.write_eights.Given as goal

abbrev pub invariant-loop-x : goal.invariant-loop-x
invariant-loop-x l = (l.x % 8 ≡ 0) × (l.x ≤ l.x-end) × WrittenAt l.i l.ro l.sh l.initial.s l.s l.x
