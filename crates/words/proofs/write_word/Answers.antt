-- `words::write_word` meets its contract: one byte more at each turn.
use native.Mathlib.Omega.{arith}
use Rattle.bits.specs.Shifts.{low_bit}
use Rattle.words.proofs.Laws.Words.{written_next}
use Rattle.words.proofs.write_word.Goals as goal

pub loop-x-preserved : goal.loop-x-preserved
loop-x-preserved c =
    let l = c.loop-x in
    let a = c.args in
    written_next _ l.invariant (omega arith) (omega (arith, low_bit a.ro l.x, low_bit a.sh l.x))
