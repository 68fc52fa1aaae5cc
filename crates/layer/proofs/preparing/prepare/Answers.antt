-- `prepare` keeps its promise: what is judged on numbers is what the table gives.
use Rattle.layer.specs.Prepared.{lent_of}
use Rattle.layer.proofs.Tables.{prepared_refused, may_stamp, prepared}
use Rattle.layer.proofs.preparing.prepare.Goals as goal

pub returns-in_err-map : goal.returns-in_err-map
returns-in_err-map c = prepared_refused _ _ c.well_formed-well.ensures _ c.in_err-map.ensures.given c.from_residual.ensures.1

pub stamp-requires : goal.stamp-requires
stamp-requires c = may_stamp (lent_of c.args.lent) _ c.well_formed-well.ensures c.in_ok-map.ensures.given c.in_ok-map.ensures.size

pub returns : goal.returns
returns c = prepared _ _ c.well_formed-well.ensures c.in_ok-map.ensures.given c.in_ok-map.ensures.size c.stamp.ensures
