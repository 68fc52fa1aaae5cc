-- `pack` meets its contract: after j turns the byte is the first j bits, packed.
use Rattle.std.proofs.Common.{◌≡◌}
use Rattle.packing.specs.Packing.{packed, rock_bit}
use Rattle.packing.proofs.pack.Given as goal

abbrev pub invariant-loop-j : goal.invariant-loop-j
invariant-loop-j l = l.b ≡ packed (rock_bit l.s l.from l.w) l.x l.j
