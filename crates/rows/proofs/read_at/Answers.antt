-- `rows::read_at` meets its contract. The word has its crossings' bytes as bits.
use Rattle.std.proofs.Common.{refl, arith}
use Rattle.std.proofs.Math.ListN.{length-set}
use Rattle.rows.specs.Layout.{sides_w}
use Rattle.rows.proofs.Laws.Reading.{draw_word, row_next}
use Rattle.rows.proofs.read_at.Goals as goal

pub bounds-c-y : goal.bounds-c-y
bounds-c-y c = omega (arith, sides_w c.args.s.map.within, c.requires.drawing.rows.long)

pub returns : goal.returns
returns c =
    let p = c.requires in
    (draw_word c.args.s.map.within p.in_y p.in_x c.width_at-n.ensures c.read_word.ensures p.drawing (λ b a q. row_next q), simp length-set refl)
