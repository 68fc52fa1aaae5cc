-- `run` meets its contract: sweep after sweep, a stage more.
use Rattle.std.proofs.Common.{◌<◌, add-one, arith}
use Rattle.field.specs.Limits.{crossings_few}
use Rattle.sweeping.proofs.Laws.Growing.{ready_few}
use Rattle.sweeping.proofs.Laws.Stages.{first_stage, next_stage, ends_sweeps, ends_labels, stage_most}
use Rattle.sweeping.proofs.run.Goals as goal

pub gather-hi-requires : goal.gather-hi-requires
gather-hi-requires c = record { few = omega (arith, c.requires.stamped.size, crossings_few c.args.map.within); room = c.requires.room }

pub sweeps-init : goal.sweeps-init
sweeps-init c = first_stage c.requires.stamped c.requires.room c.gather-hi.ensures

pub returns-then-n-hi : goal.returns-then-n-hi
returns-then-n-hi c =
    let S = c.sweeps.invariant in
    let T = c.step-n.ensures in
    record { sheet = ends_labels S T c.if-n-hi.true; sweeps = ends_sweeps S T c.if-n-hi.true }

pub overflow_add-k : goal.overflow_add-k
overflow_add-k c = omega (arith, c.sweeps.invariant.late, ready_few c.args.map.within c.sweeps.invariant.part.ready)

pub sweeps-smaller : goal.sweeps-smaller
sweeps-smaller c =
    let S = c.sweeps.invariant in
    let T = c.step-n.ensures in
    let l : c.sweeps.hi < c.step-n.result = omega (arith, T.swept.grows.more, c.if-n-hi.false) in
    omega (arith, stage_most (next_stage S T l))

pub sweeps-preserved : goal.sweeps-preserved
sweeps-preserved c =
    let S = c.sweeps.invariant in
    let T = c.step-n.ensures in
    let l : c.sweeps.hi < c.step-n.result = omega (arith, T.swept.grows.more, c.if-n-hi.false) in
    rw add-one (next_stage S T l)
