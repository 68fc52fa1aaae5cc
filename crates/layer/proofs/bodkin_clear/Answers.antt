-- `bodkin_clear` keeps its promise: a refusal leaves the list.
use Rattle.std.proofs.Common.{arith}
use Rattle.calls.specs.Rules.{lent_list}
use Rattle.layer.proofs.Listing.{for_rows, clear_early, clear_refused, clear_fits, cleared, clear_done}
use Rattle.layer.proofs.bodkin_clear.Goals as goal

pub returns-in_err-spot : goal.returns-in_err-spot
returns-in_err-spot c = clear_early (lent_list c.args.list.now c.args.count c.args.w c.args.h) c.from_residual.result c.in_err-spot.ensures c.from_residual.ensures

pub returns-in_err-may_clear : goal.returns-in_err-may_clear
returns-in_err-may_clear c =
    let m = lent_list c.args.list.now c.args.count c.args.w c.args.h in
    clear_refused m (for_rows m c.in_ok-spot.ensures) _ c.from_residual-in_err-may_clear.result c.in_err-may_clear.ensures c.from_residual-in_err-may_clear.ensures

pub clear_at-requires : goal.clear_at-requires
clear_at-requires c =
    let f = clear_fits (lent_list c.args.list.now c.args.count c.args.w c.args.h) c.in_ok-spot.ensures c.in_ok-may_clear.ensures in
    record { below = f.0; lent = f.1 }

pub returns : goal.returns
returns c =
    let m = lent_list c.args.list.now c.args.count c.args.w c.args.h in
    let f = clear_fits m c.in_ok-spot.ensures c.in_ok-may_clear.ensures in
    clear_done m (for_rows m c.in_ok-spot.ensures) c.in_ok-may_clear.ensures
    (cleared m c.in_ok-spot.ensures c.in_ok-may_clear.ensures c.clear_at.ensures (omega (arith, f.0)))
