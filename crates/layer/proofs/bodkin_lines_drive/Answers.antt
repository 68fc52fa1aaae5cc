-- `bodkin_lines_drive` keeps its promise, whether the first part told the map's size or a refusal.
use Rattle.layer.proofs.Handing.{drive_asked, lines_drive_answered}
use Rattle.layer.proofs.bodkin_lines_drive.Goals as goal

pub lines_drive-requires : goal.lines_drive-requires
lines_drive-requires c = drive_asked c.args.region.now c.fits-others.ensures c.prepare-first.result c.prepare-first.ensures

pub returns : goal.returns
returns c = lines_drive_answered c.args.region.now c.fits-others.ensures c.prepare-first.result c.lines_drive.result c.prepare-first.ensures c.lines_drive.ensures
