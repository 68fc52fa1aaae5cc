-- `well_formed` meets its contract: in a well-formed list each marker follows the one before. So
-- where one does not follow, the list is not well formed, and where none is left, it is.
use Rattle.std.proofs.Common.{refl, arith, ◌<◌}
use Rattle.std.proofs.lemmas.Bool.{false≢true}
use Rattle.std.proofs.lemmas.List.{get_or-take, length-take-le}
use Rattle.field.specs.Labels.{blank}
use Rattle.records.proofs.Forming.{stopped, ended}
use Rattle.records.proofs.well_formed.Goals as goal
use Rattle.records.proofs.well_formed.Goals.{else-loop-m-test, then-loop-m-test+then-not-follows}

pub returns : goal.returns
returns c =
    let few = c.if-not-few.ensures.0 refl in
    let used = length-take-le c.args.count c.args.list.now few.within in
    rw c.loop-m.invariant.1 (
    elim c.loop-m-test.branch [
      | else-loop-m-test w ↦ ended _ _ _ _ (omega arith) few c.loop-m.invariant.0
      | then-loop-m-test+then-not-follows w ↦
          let below : c.loop-m.m-index < c.args.count = omega (arith, w.loop-m-test.true) in
          stopped _ _ _ _ below (λ f. false≢true (w.if-not-follows.ensures.1 (rw (get_or-take c.args.count c.args.list.now c.loop-m.m-index blank below) f))) c.loop-m.invariant.0
    ])
