-- `along::row` meets its contract. What is passed has its number already, and the running number
-- makes the others.
use native.Mathlib.Omega.{arith}
use Rattle.measures.proofs.Lines.{row_from}
use Rattle.measures.proofs.Rows.{row_bare, row_ran}
use Rattle.measures.proofs.along.row.Goals as goal

pub past-a-requires : goal.past-a-requires
past-a-requires c =
    row_from c.args.out.now c.args.map.within c.requires.room c.requires.in_y c.number_of-start.ensures c.place-x.ensures (omega arith)

pub met-b-requires : goal.met-b-requires
met-b-requires c =
    row_from c.args.out.now c.args.map.within c.requires.room c.requires.in_y c.number_of-start.ensures c.place-x.ensures
    c.past-a.ensures.most

pub returns-then-b-map : goal.returns-then-b-map
returns-then-b-map c =
    row_bare c.args.map.within c.requires c.number_of-start.ensures c.place-x.ensures c.past-a.ensures c.met-b.ensures
    c.if-b-map.true

pub past-c-requires : goal.past-c-requires
past-c-requires c =
    row_from c.args.out.now c.args.map.within c.requires.room c.requires.in_y c.number_of-start.ensures c.place-x.ensures
    c.met-b.ensures.most

pub run-requires : goal.run-requires
run-requires c =
    row_from c.args.out.now c.args.map.within c.requires.room c.requires.in_y c.number_of-start.ensures c.place-x.ensures
    (omega (arith, c.past-c.ensures.most))

pub returns : goal.returns
returns c =
    let met = c.met-b.ensures in
    row_ran c.args.map.within c.requires c.number_of-start.ensures c.place-x.ensures c.past-a.ensures met
    (omega (arith, met.most, c.if-b-map.false)) c.past-c.ensures c.run.ensures
