-- `look_at` meets its contract: what is judged on numbers is refused first, then a rock shown open.
use Rattle.layer.specs.Prepared.{lent_of}
use Rattle.layer.proofs.Tables.{no_means}
use Rattle.layer.proofs.Mornings.{looked_refused, judged_fits, judged_formed, looked_fault, looked_passes}
use Rattle.layer.proofs.morning.look_at.Goals as goal

pub returns-in_err-map : goal.returns-in_err-map
returns-in_err-map c = looked_refused (lent_of c.args.lent) _ c.well_formed-well.ensures _ c.from_residual.result c.in_err-map.ensures.given c.from_residual.ensures

pub invariant_of-shown : goal.invariant_of-shown
invariant_of-shown c = record { fits = judged_fits (lent_of c.args.lent) _ c.well_formed-well.ensures c.in_ok-map.ensures.given c.in_ok-map.ensures.size }

pub shown-shown-requires : goal.shown-shown-requires
shown-shown-requires c = judged_formed (lent_of c.args.lent) _ c.well_formed-well.ensures c.in_ok-map.ensures.given c.in_ok-map.ensures.size

pub returns-then-not-shown : goal.returns-then-not-shown
returns-then-not-shown c =
    looked_fault (lent_of c.args.lent) _ c.well_formed-well.ensures c.in_ok-map.ensures.given c.in_ok-map.ensures.size ((no_means _ c.shown-shown.ensures).0 c.if-not-shown.true)

pub returns : goal.returns
returns c = looked_passes (lent_of c.args.lent) _ c.well_formed-well.ensures c.in_ok-map.ensures.given c.in_ok-map.ensures.size (c.shown-shown.ensures.0 c.if-not-shown.false)
