-- `rows::read_row` meets its contract: word after word of the row.
use Rattle.std.proofs.Common.{◌∙◌, arith}
use Rattle.rows.proofs.Laws.Reading.{draw_all, row_none, row_all}
use Rattle.rows.proofs.read_row.Goals as goal

pub read_at-requires : goal.read_at-requires
read_at-requires c =
    let p = c.requires in
    record { ones = p.ones; in_y = p.in_y; in_x = omega (arith, c.args.s.map.within.some_w); drawing = draw_all (λ x b o q. row_none q) p.drawing }

pub returns : goal.returns
returns c =
    let i = c.loop-j.invariant in
    (draw_all (λ x b o q. row_all q (omega (arith, o.in_x))) i.1, i.0 ∙ c.read_at.ensures.1)
