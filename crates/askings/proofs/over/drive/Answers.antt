-- The drive over the label sheet's marks is that over the closed crossings.
use Rattle.askings.proofs.Bridge.{drive_told}
use Rattle.askings.proofs.over.drive.Goals as goal

pub returns : goal.returns
returns c = drive_told c.label.ensures.sheet c.fill.ensures
