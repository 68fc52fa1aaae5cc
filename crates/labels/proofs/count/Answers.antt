-- `labels::count` meets its contract: row after row.
use Rattle.std.proofs.Common.{arith}
use Rattle.rows.specs.Layout.{sides_w, sides_h}
use Rattle.labels.proofs.Laws.Sums.{rows_none, rows_next}
use Rattle.labels.proofs.count.Goals as goal

pub loop-y-init : goal.loop-y-init
loop-y-init c = (rows_none, omega arith, omega arith, omega arith)

pub plus-sum-requires : goal.plus-sum-requires
plus-sum-requires c =
    let i = c.loop-y.invariant in
    let r = c.count_row.ensures in
    let w = sides_w c.args.p.map.within in
    let h = sides_h c.args.p.map.within in
    record {
      rocks = omega (arith, w, h, i.1, r.most_rocks);
      shut = omega (arith, w, h, i.2, r.most_shut);
      groups = omega (arith, w, h, i.3, r.most_groups);
    }

pub loop-y-preserved : goal.loop-y-preserved
loop-y-preserved c =
    let i = c.loop-y.invariant in
    let r = c.count_row.ensures in
    let e = c.plus-sum.ensures in
    let w = sides_w c.args.p.map.within in (
      rows_next i.0 r e,
      omega (arith, w, e.rocks, i.1, r.most_rocks),
      omega (arith, w, e.shut, i.2, r.most_shut),
      omega (arith, w, e.groups, i.3, r.most_groups),
    )
