-- `header` meets its contract: each number read goes before those that follow, and after the last
-- the one blank byte ends the header.
use native.Mathlib.Omega.{arith}
use Prim.Native.Nat.{ℕ}
use lib.ListN.{length-set}
use Rattle.header.proofs.Counting.{counting_start, counting_more, counting_stops, counting_ends}
use Rattle.header.proofs.header.Goals as goal

pub loop-n-init : goal.loop-n-init
loop-n-init c =
    let a = c.args in
    counting_start a.src.now a.at a.numbers.now c.requires

pub returns-in_err-next : goal.returns-in_err-next
returns-in_err-next c =
    let l = c.loop-n in
    rw c.from_residual.ensures
    (λ vs body e. counting_stops l.invariant c.loop-n-test.true c.in_err-next.ensures vs body (omega (arith, e, length-set {A = ℕ}, l.auto.numbers)))

pub loop-n-preserved : goal.loop-n-preserved
loop-n-preserved c =
    let l = c.loop-n in
    counting_more l.invariant _ _ (omega (arith, l.invariant.size)) c.in_ok-next.ensures.0 c.in_ok-next.ensures.1

pub returns : goal.returns
returns c = counting_ends c.loop-n.invariant c.loop-n-test.false c.one_blank.result c.one_blank.ensures
