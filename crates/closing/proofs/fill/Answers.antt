-- `closing::fill` meets its contract. The word grows at each turn, so it comes to rest.
use mathlib.Core.Path.{◌≡◌, sym}
use native.Mathlib.Omega.{arith}
use Rattle.closing.specs.Steps.{start, next, run}
use Rattle.closing.proofs.Laws.Spreading.{beside}
use Rattle.closing.proofs.fill.Goals as goal

pub loop-t-init : goal.loop-t-init
loop-t-init c = (start, c.step-t.ensures, omega arith)

pub returns-then-a-t : goal.returns-then-a-t
returns-then-a-t c =
    let i = c.loop-t.invariant in
    let a = c.step-a.ensures in
    record { steps = next i.0 i.1; still = rw c.if-a-t.true at a; more = omega (arith, i.1.more) }

pub loop-t-smaller : goal.loop-t-smaller
loop-t-smaller c =
    let i = c.loop-t.invariant in
    omega (arith, i.1.more, i.1.fits)

pub loop-t-preserved : goal.loop-t-preserved
loop-t-preserved c =
    let i = c.loop-t.invariant in
    let g = c.args in
    let a = c.step-a.ensures in
    let r = c.spread-u.ensures in
    (run (next (next i.0 i.1) a) (beside g.n g.s g.mask _ (omega arith)) r, c.step-t-in-loop-t.ensures, omega (arith, i.1.more, a.more, r.more))

pub returns : goal.returns
returns c =
    let i = c.loop-t.invariant in
    let e : c.loop-t.u ≡ c.loop-t.t = sym c.loop-t-test.false in
    record { steps = next i.0 i.1; still = rw e at i.1; more = omega (arith, i.1.more) }
