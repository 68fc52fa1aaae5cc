-- `labels::count_row` meets its contract. One word is the whole row, or word after word.
use Rattle.std.proofs.Common.{arith}
use Rattle.rows.specs.Layout.{sides_w}
use Rattle.labels.proofs.Laws.Sums.{words_none, words_next, one_word}
use Rattle.labels.proofs.count_row.Goals as goal

pub returns-then-p-le64 : goal.returns-then-p-le64
returns-then-p-le64 c = one_word (omega (arith, c.args.p.map.within.some_w, c.if-p-le64.true)) c.count_word.ensures

pub loop-j-init : goal.loop-j-init
loop-j-init c = words_none

pub plus-sum-requires : goal.plus-sum-requires
plus-sum-requires c =
    let i = c.loop-j.invariant in
    let r = c.count_word-in-loop-j.ensures in
    let w = sides_w c.args.p.map.within in
    record {
      rocks = omega (arith, w, i.most_rocks, r.most_rocks);
      shut = omega (arith, w, i.most_shut, r.most_shut);
      groups = omega (arith, w, i.most_groups, r.most_groups);
    }

pub loop-j-preserved : goal.loop-j-preserved
loop-j-preserved c = words_next c.loop-j.invariant c.count_word-in-loop-j.ensures c.plus-sum.ensures
