-- `judge` meets its contract: what is marked as new is put behind, and there is room.
use Rattle.std.proofs.Common.{arith}
use Rattle.sweeping.proofs.Laws.Growing.{room_left, judged_one}
use Rattle.sweeping.proofs.judge.Goals as goal

pub bounds-q-n : goal.bounds-q-n
bounds-q-n c =
    let n = c.number_of-i.ensures in
    room_left c.args.map.within c.requires.ready c.in-Some.p (rw c.in-Some.is at c.requires.on) n.is (omega (arith, n.below, c.requires.ready.size)) c.if-s-i-ne0.false
    (omega (arith, c.beside.ensures, c.if-beside-lt2.false))

pub offset_bounds-q-n : goal.offset_bounds-q-n
offset_bounds-q-n c = omega (arith, bounds-q-n c, c.well_formed)

pub overflow_add-result : goal.overflow_add-result
overflow_add-result c = omega (arith, bounds-q-n c, c.well_formed)

pub returns : goal.returns
returns c =
    let n = c.number_of-i.ensures in
    rw c.in-Some.is
    (judged_one c.args.map.within c.requires.ready c.in-Some.p (rw c.in-Some.is at c.requires.on) n.is (omega (arith, n.below, c.requires.ready.size)) c.if-s-i-ne0.false
    (omega (arith, c.beside.ensures, c.if-beside-lt2.false)))
