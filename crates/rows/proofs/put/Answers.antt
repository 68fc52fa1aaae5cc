-- `rows::put` meets its contract: row after row.
use Rattle.std.proofs.Common.{arith}
use Rattle.rows.proofs.Laws.Writing.{wrote_start, wrote_next, putting_next}
use Rattle.rows.specs.Laws.{last_or_before}
use Rattle.rows.proofs.put.Goals as goal

pub loop-y-init : goal.loop-y-init
loop-y-init c = wrote_start c.requires (λ b a d. omega (arith, d.0))

pub put_row-requires : goal.put_row-requires
put_row-requires c = record { putting = putting_next c.requires c.loop-y.invariant; in_y = omega arith; width = c.width_at-n.ensures }

pub loop-y-preserved : goal.loop-y-preserved
loop-y-preserved c =
    let l = c.loop-y in
    wrote_next l.invariant c.put_row.ensures (λ b a p. last_or_before l.y b p.0 (λ m. (m, p.1)) (λ m. (m, p.1)))
