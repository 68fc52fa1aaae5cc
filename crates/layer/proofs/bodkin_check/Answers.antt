-- `bodkin_check` keeps its promise, whether the first part told the map's size or a refusal.
use Rattle.layer.proofs.Handing.{ends_asked, check_answered}
use Rattle.layer.proofs.bodkin_check.Goals as goal

pub check-requires : goal.check-requires
check-requires c = ends_asked c.prepare-first.result c.prepare-first.ensures

pub returns : goal.returns
returns c = check_answered c.prepare-first.result c.check.result c.prepare-first.ensures c.check.ensures
