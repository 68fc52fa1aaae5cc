-- `words::read_eights` meets its contract: eight bits more at each turn.
use Rattle.std.proofs.Common.{◌≡◌, ◌+◌, ◌*◌, ◌/◌, arith}
use Rattle.words.proofs.Laws.Words.{reads_start, reads_eight}
use Rattle.words.proofs.read_eights.Goals as goal

pub loop-x-init : goal.loop-x-init
loop-x-init c = (omega arith, omega arith, reads_start)

pub loop-x-preserved : goal.loop-x-preserved
loop-x-preserved c = (omega arith, omega arith, reads_eight _ c.loop-x.invariant.2 (omega (arith, c.requires.most_n)) c.eight.ensures)

pub returns-2 : goal.returns-2
returns-2 c =
    let e : c.args.n / 8 * 8 ≡ c.loop-x.x + 8 = omega arith in
    rw e (reads_eight _ c.loop-x.invariant.2 (omega (arith, c.requires.most_n)) c.eight.ensures)
