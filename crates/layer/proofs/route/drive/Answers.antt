-- `drive` keeps its promise: the part handed back is as long as the drive, which the route holds.
use Rattle.std.proofs.Common.{arith}
use Rattle.std.proofs.Math.ListN.{length-take}
use Rattle.calls.proofs.RouteCalls.{drive_part}
use Rattle.layer.proofs.DriveAnswers.{drove_within}
use Rattle.layer.proofs.route.drive.Goals as goal

pub slice_bounds-result-end : goal.slice_bounds-result-end
slice_bounds-result-end c =
    let within = drove_within c.bodkin_drive.ensures in
    rw c.from-drove.ensures (simp length-take (omega (arith, within, c.bodkin_drive.auto.route)))

pub returns : goal.returns
returns c = rw c.from-drove.ensures (drive_part c.bodkin_drive.ensures c.args.route.ref_ptr)
