-- `turn` meets its contract: whatever the step says, there is less to do.
use Rattle.std.proofs.Common.{List, ℕ, ◌-◌, ◌≡◌, length, arith}
use borrow.Rule.Slice.PartMut.{mid_of, mid_len}
use Rattle.depots.specs.declared.State.{State}
use Rattle.depots.specs.States.{MayStep}
use Rattle.depots.proofs.Turns.{went_on, finished, filled}
use Rattle.depots.proofs.turn.Goals as goal

-- The bytes at hand, which are lent to the step.
hand_size : {src out : List ℕ} {s : State} → MayStep src out s → length (mid_of s.from (s.held - s.from) src) ≡ s.held - s.from
hand_size {src} {out} {s} p = mid_len s.from s.held src (omega (arith, p.buffers.input, p.stands.standing.within))

pub returns-in-Map : goal.returns-in-Map
returns-in-Map c =
    let p = c.requires in
    went_on p.stands p.going (hand_size p) c.in-Map.ensures.right c.go_on.ensures

pub returns-in-Last : goal.returns-in-Last
returns-in-Last c = finished c.requires.stands c.requires.going c.finish.ensures

pub returns-in-More : goal.returns-in-More
returns-in-More c =
    let p = c.requires in
    filled p.stands p.going (hand_size p) c.in-More.ensures.0 (rw p.buffers.input at c.read_on.ensures)
