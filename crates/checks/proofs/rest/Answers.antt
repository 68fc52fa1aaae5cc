-- `rest` meets its contract: each way out finds what is left to be found there.
use Rattle.std.proofs.Common.{arith, rules}
use Rattle.std.proofs.lemmas.Result.{err_from_is_err_and}
use Rattle.checks.proofs.Going.{onward_fault, onward_next}
use Rattle.checks.proofs.rest.Goals as goal

pub returns-in_err-p : goal.returns-in_err-p
returns-in_err-p c =
    let p = err_from_is_err_and c.from_residual.result c.from_residual.ensures.1 in
    rw (p.1, p.2) (onward_fault c.loop-k.invariant (omega arith) c.if-eq.ensures _ (λ e f h. search rules) c.map_err.ensures.cases c.step.ensures c.in_err-p.was)

pub loop-k-preserved : goal.loop-k-preserved
loop-k-preserved c = onward_next c.loop-k.invariant (omega arith) c.if-eq.ensures _ (λ e f h. search rules) c.map_err.ensures.cases c.step.ensures c.in_ok-p.was
