-- `closing::grow_row` meets its contract. One word is the whole row; else growth to the east and to
-- the west adds up.
use Rattle.std.proofs.Common.{inl, arith}
use Rattle.closing.proofs.Laws.Sweeping.{sweeps_next, sweeps_all}
use Rattle.closing.proofs.grow_row.Goals as goal

pub returns-then-map-le64 : goal.returns-then-map-le64
returns-then-map-le64 c =
    let s = c.args.map.within in
    let l = c.if-map-le64.true in
    sweeps_all (λ b a p. (p.0, omega (arith, p.1, l))) (λ b a p. (p.0, omega (arith, p.1, s.some_w))) c.grow_word.ensures

pub returns : goal.returns
returns c = sweeps_next c.grow_words-d.ensures c.grow_words-e.ensures (λ b a p. inl p) (λ b a p. p) (λ b a p. p)
