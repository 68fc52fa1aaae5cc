-- `closing::settle` meets its contract. Every sweep but the last sets a bit; after one that changes
-- nothing every word is still.
use Rattle.std.proofs.Common.{arith}
use Rattle.closing.proofs.Laws.Sweeping.{grown_refl, grown_trans, closes, left_less}
use Rattle.closing.proofs.settle.Goals as goal
use Rattle.closing.proofs.settle.Goals.{then-sweep-eq0-via-then-sweep-eq0, then-sweep-eq0-via-else-sweep-eq0+then-sweep-eq0-2}

pub sweeps-init : goal.sweeps-init
sweeps-init c = (grown_refl c.requires.rows, c.requires.marks)

pub returns-then-sweep-eq0 : goal.returns-then-sweep-eq0
returns-then-sweep-eq0 c =
    let g = c.sweeps.invariant.0 in
    elim c.then-sweep-eq0.branch [
      | then-sweep-eq0-via-then-sweep-eq0 w ↦ rw w.c-is (closes c.args.map.within g c.sweep.ensures.sweeps w.if-sweep-eq0.true)
      | then-sweep-eq0-via-else-sweep-eq0+then-sweep-eq0-2 w ↦
          rw w.c-is (closes c.args.map.within (grown_trans g c.sweep.ensures.sweeps.grown) w.sweep-else-sweep-eq0.ensures.sweeps w.if-sweep-eq0-2.true)
    ]

pub sweeps-smaller : goal.sweeps-smaller
sweeps-smaller c =
    let n = c.sweep.ensures.sweeps in
    let s = c.sweep-else-sweep-eq0.ensures.sweeps in
    left_less (grown_trans n.grown s.grown) (omega (arith, n.grown.up, s.more c.if-sweep-eq0-2.false))

pub sweeps-preserved : goal.sweeps-preserved
sweeps-preserved c =
    let n = c.sweep.ensures in
    let s = c.sweep-else-sweep-eq0.ensures in
    (grown_trans c.sweeps.invariant.0 (grown_trans n.sweeps.grown s.sweeps.grown), s.marks)
