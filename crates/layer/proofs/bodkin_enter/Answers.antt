-- `bodkin_enter` keeps its promise: a refusal leaves the list, and a place on the map fits a
-- marker.
use Rattle.calls.specs.Rules.{lent_list}
use Rattle.layer.proofs.Listing.{for_rows, enter_early, enter_refused, enter_fits, enter_may, enter_belongs, enter_done}
use Rattle.layer.proofs.bodkin_enter.Goals as goal

pub returns-in_err-spot : goal.returns-in_err-spot
returns-in_err-spot c = enter_early (lent_list c.args.list.now c.args.count c.args.w c.args.h) c.from_residual.result c.in_err-spot.ensures c.from_residual.ensures

pub returns-in_err-may_enter : goal.returns-in_err-may_enter
returns-in_err-may_enter c =
    let m = lent_list c.args.list.now c.args.count c.args.w c.args.h in
    enter_refused m (for_rows m c.in_ok-spot.ensures) _ c.from_residual-in_err-may_enter.result c.in_err-may_enter.ensures c.from_residual-in_err-may_enter.ensures

pub marker-m-requires : goal.marker-m-requires
marker-m-requires c =
    let m = lent_list c.args.list.now c.args.count c.args.w c.args.h in
    enter_fits m (for_rows m c.in_ok-spot.ensures) c.in_ok-may_enter.ensures

pub enter_at-requires : goal.enter_at-requires
enter_at-requires c =
    let m = lent_list c.args.list.now c.args.count c.args.w c.args.h in
    rw c.marker-m.ensures
    (record { may = enter_may m (for_rows m c.in_ok-spot.ensures) c.in_ok-may_enter.ensures; belongs = enter_belongs m c.in_ok-spot.ensures })

pub returns : goal.returns
returns c =
    let m = lent_list c.args.list.now c.args.count c.args.w c.args.h in
    enter_done m (for_rows m c.in_ok-spot.ensures) c.in_ok-may_enter.ensures (rw c.marker-m.ensures at c.enter_at.ensures)
