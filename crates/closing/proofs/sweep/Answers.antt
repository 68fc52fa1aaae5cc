-- `closing::sweep` meets its contract: row after row, each at its turn.
use Rattle.std.proofs.Common.{sym, ap, ◌∙◌, arith}
use Rattle.closing.specs.Growth.{turn_of}
use Rattle.closing.proofs.Laws.Sweeping.{sweeps_start, sweeps_next, sweeps_all}
use Rattle.closing.proofs.Laws.Turns.{turn_below, turn_back, turn_next}
use Rattle.closing.proofs.sweep.Goals as goal

pub loop-k-init : goal.loop-k-init
loop-k-init c = record { sweeps = sweeps_start c.requires.rows (λ b a d. omega (arith, d.1)); marks = c.requires.marks }

pub look_row-d-requires : goal.look_row-d-requires
look_row-d-requires c =
    let i = c.loop-k.invariant in
    record { rows = i.sweeps.grown.rows; marks = i.marks; in_y = omega (arith, turn_below c.args.back c.loop-k-test.true) }

pub loop-k-preserved : goal.loop-k-preserved
loop-k-preserved c =
    let i = c.loop-k.invariant in
    let t = c.loop-k-test.true in
    let e = c.turn.ensures in
    let r = c.look_row-d.ensures in
    record {
      sweeps = sweeps_next i.sweeps r.sweeps (λ b a p. turn_next c.args.back t p.0 p.1 (λ m. (p.0, m, p.2)) (λ m. (m ∙ sym e, p.2)))
          (λ b a p. (p.0, omega (arith, p.1), p.2))
          (λ b a p. (omega (arith, p.0, e, turn_below c.args.back t), omega (arith, ap (turn_of c.args.back c.args.map.h) (p.0 ∙ e), turn_back c.args.back t), p.1));
      marks = r.marks;
    }

pub returns : goal.returns
returns c =
    let i = c.loop-k.invariant in
    record {
      sweeps = sweeps_all (λ b a p. (p.0, omega (arith, turn_below c.args.back {n = c.args.map.h} {k = b} p.0), p.1)) (λ b a p. (p.0, p.2)) i.sweeps;
      marks = i.marks;
    }
