-- `put` meets its contract: there is room, since the queue has no more than the bytes passed.
use native.Mathlib.Omega.{arith}
use Rattle.sweeping.proofs.Laws.Gathering.{put_none, put_one, put_room}
use Rattle.sweeping.proofs.put.Goals as goal

pub returns-then-s-i-eq0 : goal.returns-then-s-i-eq0
returns-then-s-i-eq0 c = put_none c.requires.inside c.requires.gathering c.if-s-i-eq0.true

pub bounds-q-n : goal.bounds-q-n
bounds-q-n c = put_room c.requires.inside c.requires.gathering c.requires.gathers

pub offset_bounds-q-n : goal.offset_bounds-q-n
offset_bounds-q-n c = omega (arith, bounds-q-n c, c.well_formed)

pub overflow_add-result : goal.overflow_add-result
overflow_add-result c = omega (arith, bounds-q-n c, c.well_formed)

pub returns : goal.returns
returns c = put_one c.requires.inside c.requires.gathering c.if-s-i-eq0.false (bounds-q-n c)
