-- The loop's invariant: the numbers are those of the rows passed.
use Rattle.std.proofs.Common.{◌*◌, ◌≤◌}
use Rattle.rows.specs.Layout.{words}
use Rattle.labels.specs.Counting.{Counted}
use Rattle.labels.proofs.count.Given as goal

abbrev pub invariant-loop-y : goal.invariant-loop-y
invariant-loop-y l =
    Counted l.p.map.w l.y l.p.rock.now l.p.closed.now l.sum × (l.sum.rocks ≤ 64 * words * l.y) × (l.sum.shut ≤ 64 * words * l.y) × (l.sum.groups ≤ 64 * words * l.y)
