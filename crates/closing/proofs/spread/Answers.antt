-- `closing::spread` meets its contract: a jump of 2 ^ k places goes along a stretch of as many.
use Rattle.std.proofs.Common.{◌≡◌, ◌*◌, ◌%◌, ◌^◌, ◌<◌, arith}
use Rattle.closing.proofs.Laws.Spreading.{east_start, west_start, east_next, west_next, spread_start, spread_next, short, power_next}
use Rattle.closing.proofs.spread.Goals as goal

pub loop-k-init : goal.loop-k-init
loop-k-init c = (spread_start c.ranges.v.fits, east_start, west_start)

pub overflow_shl-g : goal.overflow_shl-g
overflow_shl-g c = omega (arith, short c.loop-k-test.true)

pub overflow_shr-g : goal.overflow_shr-g
overflow_shr-g c = omega (arith, short c.loop-k-test.true)

pub overflow_shl-east : goal.overflow_shl-east
overflow_shl-east c = omega (arith, short c.loop-k-test.true)

pub overflow_shr-west : goal.overflow_shr-west
overflow_shr-west c = omega (arith, short c.loop-k-test.true)

pub loop-k-preserved : goal.loop-k-preserved
loop-k-preserved c =
    let i = c.loop-k.invariant in
    let s : 2 ^ c.loop-k.k < 64 = short c.loop-k-test.true in
    let d : 1 * 2 ^ c.loop-k.k % 2 ^ 64 ≡ 2 ^ c.loop-k.k = omega (arith, s) in
    rw (d, power_next c.loop-k.k) (spread_next s i.1 i.2 i.0, east_next s i.1, west_next i.2)
