-- The loop's invariant: k sweeps are made, each changed something, and the queue has what the last
-- of them closed. The queue's end rises, and is never past the map's size.
use Rattle.std.proofs.Common.{◌-◌, ◌*◌}
use Rattle.rows.specs.Sheets.{Stones}
use Rattle.sweeping.proofs.Laws.Stages.{Stage}
use Rattle.sweeping.proofs.run.Given as goal

abbrev pub invariant-sweeps : goal.invariant-sweeps
invariant-sweeps l = Stage (Stones l.map.w l.map.h l.initial.s) l.map.w l.map.h l.k l.s l.q l.lo l.hi

abbrev pub decreases-sweeps : goal.decreases-sweeps
decreases-sweeps l = l.map.h * l.map.w - l.hi
