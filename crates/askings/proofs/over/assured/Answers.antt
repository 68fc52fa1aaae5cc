-- Home is assured over the label sheet's marks exactly where it is over the closed crossings.
use Rattle.std.proofs.Common.{refl}
use Rattle.field.proofs.Workings.SameLaws.{alike_back, assured_same}
use Rattle.askings.proofs.Bridge.{marked_alike, rest_closed, rest_open}
use Rattle.askings.proofs.over.assured.Goals as goal

pub returns-in_err-open_ends : goal.returns-in_err-open_ends
returns-in_err-open_ends c = rest_closed c.label.ensures.sheet c.in_err-open_ends.ensures c.from_residual.ensures.1

pub returns : goal.returns
returns c =
    let sheet = c.label.ensures.sheet in
    let alike = marked_alike sheet in
    let told = c.assured.ensures in
    rest_open sheet _ c.in_ok-open_ends.ensures refl
    (λ e. assured_same _ _ alike (told.0 e), λ a. told.1 (assured_same _ _ (alike_back alike) a))
