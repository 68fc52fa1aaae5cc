-- `bodkin_label` keeps its promise: the rocks are stamped first, and what is told of the stamped sheet holds of
-- the list.
use Rattle.layer.proofs.Joining.{label_may}
use Rattle.layer.proofs.LabelAnswers.{label_refused, label_joined}
use Rattle.layer.proofs.bodkin_label.Goals as goal

pub returns-in_err-map : goal.returns-in_err-map
returns-in_err-map c = label_refused c.in_err-map.ensures c.from_residual.result c.from_residual.ensures

pub label-requires : goal.label-requires
label-requires c = label_may c.in_ok-map.ensures

pub returns : goal.returns
returns c = label_joined c.in_ok-map.ensures c.label.ensures
