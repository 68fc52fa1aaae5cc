-- `counts::count_row` meets its contract. The invariant: the numbers are those of the crossings
-- passed.
use mathlib.Core.Path.{◌≡◌}
use native.Mathlib.Omega.{arith}
use Rattle.placing.specs.Counting.{adds_at}
use Rattle.placing.proofs.CountLaws.{adds_here, adds_few, row_here, total_start, total_again, total_fits, row_few}
use Rattle.placing.proofs.counts.count_row.Goals as goal

pub loop-x-init : goal.loop-x-init
loop-x-init c = total_start _ c.default-p.ensures

pub add-p-requires : goal.add-p-requires
add-p-requires c =
    total_fits (adds_at _ _ _ _ _ _ _ _) c.loop-x.invariant (adds_here _ _ _ _ _ _ _ _ _ c.added.ensures c.number_of-i.ensures.is c.sure.ensures)
    (adds_few _ _ _ _ _ _ _ _) c.loop-x-test.true (row_few c.args.s.map.within)

pub loop-x-preserved : goal.loop-x-preserved
loop-x-preserved c =
    total_again (adds_at _ _ _ _ _ _ _ _) c.loop-x.invariant (adds_here _ _ _ _ _ _ _ _ _ c.added.ensures c.number_of-i.ensures.is c.sure.ensures)
    c.add-p.ensures

pub returns : goal.returns
returns c =
    let e : c.loop-x.x ≡ c.args.s.map.w = omega arith in
    row_here _ _ _ _ _ _ _ (rw e at c.loop-x.invariant) c.level-level.ensures
