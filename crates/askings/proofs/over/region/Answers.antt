-- The region over the label sheet's marks is that over the closed crossings.
use Rattle.askings.proofs.Bridge.{region_told}
use Rattle.askings.proofs.over.region.Goals as goal

pub returns : goal.returns
returns c = region_told c.label.ensures.sheet c.region.ensures
