-- The hops over the label sheet's marks are those over the closed crossings.
use Rattle.field.proofs.Workings.SameLaws.{answers_same}
use Rattle.calls.specs.SameLaws.{hop_rows_same}
use Rattle.askings.proofs.Bridge.{asked_same, marked_alike, marked_stable}
use Rattle.askings.proofs.over.hop.Goals as goal

pub hops_over-requires : goal.hops_over-requires
hops_over-requires c = record { home = c.requires.from; on = c.requires.to; stable = marked_stable c.label.ensures.sheet }

pub returns : goal.returns
returns c =
    let sheet = c.label.ensures.sheet in
    let alike = marked_alike sheet in
    record { sheet = sheet; asked = asked_same _ (hop_rows_same _ _ alike) (λ a. answers_same _ _ alike) c.hops_over.ensures }
