-- `steady` meets its contract: every row passed has no fault; so a fault met is the sheet's, and
-- where none is met every crossing is as it may be.
use Prim.Native.Nat.{ℕ, ◌<◌}
use Rattle.field.specs.Workings.MorningLaws.{Kept}
use Rattle.taking.proofs.steady.Given as goal

abbrev pub invariant-loop-y : goal.invariant-loop-y
invariant-loop-y l = (x v : ℕ) → x < l.s.map.w → v < l.y → Kept l.s.map.w l.s.map.h l.s.cells.now x v
