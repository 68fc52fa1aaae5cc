-- `parts::part` meets its contract: of what `fill` makes, only a filled route is possible.
use Rattle.meetings.proofs.PartLaws.{gone}
use Rattle.meetings.proofs.parts.part.Goals as goal

pub returns : goal.returns
returns c = gone c.requires c.fill-filled.ensures
