-- `bodkin_drive` keeps its promise, whether the first part told the map's size or a refusal.
use Rattle.layer.proofs.Handing.{drive_asked, drive_answered}
use Rattle.layer.proofs.bodkin_drive.Goals as goal

pub drive-requires : goal.drive-requires
drive-requires c = drive_asked c.args.region.now c.fits-others.ensures c.prepare-first.result c.prepare-first.ensures

pub returns : goal.returns
returns c = drive_answered c.args.region.now c.fits-others.ensures c.prepare-first.result c.drive.result c.prepare-first.ensures c.drive.ensures
