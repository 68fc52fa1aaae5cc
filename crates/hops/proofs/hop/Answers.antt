-- `hop` meets its contract: its four ways out are the four answers of the two tests.
use mathlib.Core.Path.{refl}
use Rattle.hops.proofs.Answering.{answers}
use Rattle.hops.proofs.hop.Goals as goal

pub returns-in-Some-Some : goal.returns-in-Some-Some
returns-in-Some-Some c =
    let row = rw c.in-Some-Some.is-0 at c.permitted-row.ensures in
    let column = rw c.in-Some-Some.is-1 at c.permitted-column.ensures in
    answers c.args.s.map.within c.requires row.passed column.passed (cc (row.there.0, row.there.1, column.there.0, column.there.1))

pub returns-in-None-None : goal.returns-in-None-None
returns-in-None-None c =
    answers c.args.s.map.within c.requires (rw c.in-None-None.is-0 at c.permitted-row.ensures)
    (rw c.in-None-None.is-1 at c.permitted-column.ensures) refl

pub returns-in-Some-None : goal.returns-in-Some-None
returns-in-Some-None c =
    let row = rw c.in-Some-None.is-0 at c.permitted-row.ensures in
    answers c.args.s.map.within c.requires row.passed (rw c.in-Some-None.is-1 at c.permitted-column.ensures) (cc (row.there.0, row.there.1))

pub returns-in-None-Some : goal.returns-in-None-Some
returns-in-None-Some c =
    let column = rw c.in-None-Some.is-1 at c.permitted-column.ensures in
    answers c.args.s.map.within c.requires (rw c.in-None-Some.is-0 at c.permitted-row.ensures) column.passed (cc (column.there.0, column.there.1))
