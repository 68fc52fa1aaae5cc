-- `rows::read` meets its contract: row after row.
use Rattle.std.proofs.Common.{refl, arith}
use Rattle.rows.proofs.Laws.Reading.{draw_start, draw_done}
use Rattle.rows.proofs.read.Goals as goal

pub loop-y-init : goal.loop-y-init
loop-y-init c = (refl, draw_start c.requires (λ b a d. omega (arith, d)))

pub returns : goal.returns
returns c = draw_done (λ x b o. omega (arith, o.in_y)) c.loop-y.invariant.1
