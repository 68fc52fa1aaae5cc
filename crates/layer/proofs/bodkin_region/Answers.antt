-- `bodkin_region` keeps its promise, whether the first part told the map's size or a refusal.
use Rattle.layer.proofs.Handing.{drive_asked, region_answered}
use Rattle.layer.proofs.bodkin_region.Goals as goal

pub region-requires : goal.region-requires
region-requires c = drive_asked c.args.region.now c.fits-others.ensures c.prepare-first.result c.prepare-first.ensures

pub returns : goal.returns
returns c = region_answered c.args.region.now c.fits-others.ensures c.prepare-first.result c.region.result c.prepare-first.ensures c.region.ensures
