-- `write_number` meets its contract: the k lowest digits of the rest, with what stands from k on,
-- are always the digits of the number.
use Rattle.std.proofs.Common.{◌≡◌, ◌++◌, drop, length}
use Rattle.writer.specs.Digits.{digits_of}
use Rattle.writer.proofs.write_number.Given as goal

abbrev pub invariant-loop-k : goal.invariant-loop-k
invariant-loop-k l = digits_of l.k l.rest ++ drop l.k l.out ≡ digits_of (length l.initial.out) l.v
