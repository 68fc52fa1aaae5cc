-- `row_faults` meets its contract: the loop keeps Counted, and the last crossing is counted after
-- it.
use mathlib.Core.Path.{◌≡◌, refl, sym}
use Prim.Native.Nat.{ℕ, ◌+◌, ◌-◌}
use native.Mathlib.Omega.{arith}
use lib.ListN.{length, get_or, get_or-eq_default}
use Rattle.field.specs.Limits.{side_is}
use Rattle.taking.proofs.Counting.{counted_more, counted_row, west_next}
use Rattle.taking.proofs.row_faults.Goals as goal

pub overflow_add-faults : goal.overflow_add-faults
overflow_add-faults c = omega (arith, c.fault.ensures.small, c.loop-x.invariant.0.few, side_is)

pub loop-x-preserved : goal.loop-x-preserved
loop-x-preserved c =
    let l = c.loop-x in
    (counted_more _ _ _ l.invariant.0 refl l.invariant.1 (rw (sym c.from-faults.ensures) at c.fault.ensures), west_next c.args.here.now l.x)

pub overflow_add-result : goal.overflow_add-result
overflow_add-result c = omega (arith, c.fault-2.ensures.small, c.loop-x.invariant.0.few, side_is)

pub returns : goal.returns
returns c =
    let p = c.requires in
    let l = c.loop-x in
    let here = c.args.here.now in
    let all : l.x ≡ length here - 1 = omega arith in
    let east : ◌≡◌ {A = ℕ} 0 (get_or here (l.x + 1) 0) = sym (get_or-eq_default here 0 {n = l.x + 1} (omega (arith, p.some))) in
    counted_row _ _ _ (omega (arith, p.some)) (counted_more _ _ _ l.invariant.0 east l.invariant.1 (rw all (rw (sym c.from.ensures) at c.fault-2.ensures)))
