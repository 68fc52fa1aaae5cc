-- `closing::grow_words` meets its contract: word after word of the row, each at its turn.
use Rattle.std.proofs.Common.{sym, ap, ◌∙◌, arith}
use Rattle.closing.specs.Growth.{turn_of}
use Rattle.closing.proofs.Laws.Sweeping.{sweeps_start, sweeps_next, sweeps_all}
use Rattle.closing.proofs.Laws.Turns.{turn_below, turn_back, turn_next}
use Rattle.closing.proofs.grow_words.Goals as goal

pub loop-k-init : goal.loop-k-init
loop-k-init c = sweeps_start c.requires.rows (λ b a d. omega (arith, d.2))

pub grow_word-d-requires : goal.grow_word-d-requires
grow_word-d-requires c =
    record { rows = c.loop-k.invariant.grown.rows; in_y = c.requires.in_y; in_x = omega (arith, turn_below c.args.back c.loop-k-test.true) }

pub loop-k-preserved : goal.loop-k-preserved
loop-k-preserved c =
    let l = c.loop-k in
    let t = c.loop-k-test.true in
    let e = c.turn.ensures in
    sweeps_next l.invariant c.grow_word-d.ensures (λ b a p. turn_next c.args.back t p.1 p.2 (λ m. (p.0, p.1, m)) (λ m. (p.0, m ∙ sym e)))
    (λ b a p. (p.0, p.1, omega (arith, p.2)))
    (λ b a p. (p.0, omega (arith, p.1, e, turn_below c.args.back t), omega (arith, ap (turn_of c.args.back c.words_of-n.result) (p.1 ∙ e), turn_back c.args.back t)))

pub returns : goal.returns
returns c =
    sweeps_all (λ b a p. (p.0, omega (arith, p.1), omega (arith, p.1, turn_below c.args.back {n = c.words_of-n.result} {k = a} (omega (arith, p.1)))))
    (λ b a p. (p.0, omega (arith, p.1))) c.loop-k.invariant
