-- The loop of `stamp` keeps Upto: the sheet has the marks of those markers passed that count, and
-- no others.
use Rattle.records.proofs.Stamping.{Upto}
use Rattle.records.proofs.stamp.Given as goal

abbrev pub invariant-loop-m : goal.invariant-loop-m
invariant-loop-m l = Upto l.map.w l.map.h l.clearance l.low l.list l.m-index l.sheet
