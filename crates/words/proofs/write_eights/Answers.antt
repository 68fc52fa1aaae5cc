-- `words::write_eights` meets its contract: eight bytes more at each turn.
use Rattle.std.proofs.Common.{◌≡◌, ◌+◌, ◌*◌, ◌/◌, arith}
use Rattle.words.proofs.Laws.Words.{written_eight}
use Rattle.words.proofs.write_eights.Goals as goal

pub loop-x-preserved : goal.loop-x-preserved
loop-x-preserved c = (omega arith, omega arith, written_eight c.loop-x.invariant.2 c.put_eight.ensures c.both.ensures)

pub returns-2 : goal.returns-2
returns-2 c =
    let e : c.args.n / 8 * 8 ≡ c.loop-x.x + 8 = omega arith in
    rw e (written_eight c.loop-x.invariant.2 c.put_eight.ensures c.both.ensures)
