-- `parts::sure_region` meets its contract: where there is a shortest drive the region is made.
use Rattle.meetings.proofs.PartLaws.{region_sure}
use Rattle.meetings.proofs.parts.sure_region.Goals as goal

pub returns : goal.returns
returns c = region_sure c.requires.some c.region-found.ensures
