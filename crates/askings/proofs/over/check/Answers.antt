-- What is found of a drawn list over the label sheet's marks is found of it over the closed
-- crossings.
use Rattle.std.proofs.Common.{refl}
use Rattle.calls.specs.SameLaws.{finds_same}
use Rattle.askings.proofs.Bridge.{marked_alike, check_found, rest_closed, rest_open}
use Rattle.askings.proofs.over.check.Goals as goal

pub returns-in_err-open_ends : goal.returns-in_err-open_ends
returns-in_err-open_ends c = rest_closed c.label.ensures.sheet c.in_err-open_ends.ensures c.from_residual.ensures.1

pub returns : goal.returns
returns c =
    let sheet = c.label.ensures.sheet in
    rest_open sheet _ c.in_ok-open_ends.ensures refl (finds_same _ _ (marked_alike sheet) (check_found c.check.result c.check.ensures))
