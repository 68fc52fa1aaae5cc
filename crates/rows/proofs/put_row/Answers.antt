-- `rows::put_row` meets its contract. One word is the whole row, or word after word.
use Rattle.std.proofs.Common.{arith}
use Rattle.rows.proofs.Laws.Writing.{wrote_start, wrote_next, wrote_all, putting_next}
use Rattle.rows.specs.Laws.{last_or_before}
use Rattle.rows.proofs.put_row.Goals as goal

pub returns-then-w-le64 : goal.returns-then-w-le64
returns-then-w-le64 c = wrote_all (λ b a p. (p.0, omega (arith, p.1, c.if-w-le64.true))) c.put_word.ensures

pub loop-j-init : goal.loop-j-init
loop-j-init c = wrote_start c.requires.putting (λ b a d. omega (arith, d.1))

pub put_word-requires-in-loop-j : goal.put_word-requires-in-loop-j
put_word-requires-in-loop-j c =
    let p = c.requires in
    record { putting = putting_next p.putting c.loop-j.invariant; in_y = p.in_y; in_x = omega arith; width = c.width_at.ensures }

pub loop-j-preserved : goal.loop-j-preserved
loop-j-preserved c =
    let l = c.loop-j in
    wrote_next l.invariant c.put_word-in-loop-j.ensures (λ b a p. last_or_before l.j a p.1 (λ m. (p.0, m)) (λ m. (p.0, m)))

pub returns : goal.returns
returns c = wrote_all (λ b a p. (p.0, omega (arith, p.1))) c.loop-j.invariant
