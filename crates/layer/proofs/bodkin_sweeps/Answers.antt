-- `bodkin_sweeps` keeps its promise: the rocks are stamped first, and what is told of the stamped sheet holds of
-- the list.
use Rattle.layer.proofs.Joining.{label_may}
use Rattle.layer.proofs.LabelAnswers.{sweeps_refused, sweeps_joined}
use Rattle.layer.proofs.bodkin_sweeps.Goals as goal

pub returns-in_err-map : goal.returns-in_err-map
returns-in_err-map c = sweeps_refused c.in_err-map.ensures c.from_residual.result c.from_residual.ensures

pub sweeps-requires : goal.sweeps-requires
sweeps-requires c = label_may c.in_ok-map.ensures

pub returns : goal.returns
returns c = sweeps_joined c.in_ok-map.ensures c.sweeps.ensures
