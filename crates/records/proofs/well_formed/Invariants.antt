-- The loop of `well_formed` keeps Forming: all markers passed are well formed, and `last` is the id
-- of the one before.
use Rattle.std.proofs.Common.{◌≡◌}
use Rattle.records.proofs.Forming.{Forming}
use Rattle.records.proofs.well_formed.Given as goal

abbrev pub invariant-loop-m : goal.invariant-loop-m
invariant-loop-m l = Forming l.w l.h l.list l.count l.last l.m-index × (l.passed ≡ l.m-index)
