-- `counts::count` meets its contract. The invariant: the numbers are those of the rows passed.
use Rattle.placing.specs.Counting.{row_at}
use Rattle.placing.proofs.CountLaws.{row_at_few, total_start, total_again, total_fits, map_few}
use Rattle.placing.proofs.counts.count.Goals as goal

pub loop-y-init : goal.loop-y-init
loop-y-init c = total_start _ c.default-p.ensures

pub add-p-requires : goal.add-p-requires
add-p-requires c =
    total_fits (row_at _ _ _ _ _ _) c.loop-y.invariant c.count_row.ensures (row_at_few _ _ _ _ _ _) c.loop-y-test.true (map_few c.args.s.map.within)

pub loop-y-preserved : goal.loop-y-preserved
loop-y-preserved c = total_again (row_at _ _ _ _ _ _) c.loop-y.invariant c.count_row.ensures c.add-p.ensures
