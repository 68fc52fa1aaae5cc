-- What the crossing-lines test says over the label sheet's marks, it says over the closed crossings.
use Rattle.std.proofs.Common.{refl}
use Rattle.calls.specs.SameLaws.{lines_told_same}
use Rattle.askings.proofs.Bridge.{marked_alike, lines_said, rest_closed, rest_open}
use Rattle.askings.proofs.over.lines.Goals as goal

pub returns-in_err-open_ends : goal.returns-in_err-open_ends
returns-in_err-open_ends c = rest_closed c.label.ensures.sheet c.in_err-open_ends.ensures c.from_residual.ensures.1

pub returns : goal.returns
returns c =
    let sheet = c.label.ensures.sheet in
    rest_open sheet _ c.in_ok-open_ends.ensures refl (lines_told_same _ _ (marked_alike sheet) (lines_said c.lines.result c.lines.ensures))
