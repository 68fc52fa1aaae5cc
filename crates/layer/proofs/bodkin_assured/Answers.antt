-- `bodkin_assured` keeps its promise, whether the first part told the map's size or a refusal.
use Rattle.layer.proofs.Handing.{ends_asked, assured_answered}
use Rattle.layer.proofs.bodkin_assured.Goals as goal

pub assured-requires : goal.assured-requires
assured-requires c = ends_asked c.prepare-first.result c.prepare-first.ensures

pub returns : goal.returns
returns c = assured_answered c.prepare-first.result c.assured.result c.prepare-first.ensures c.assured.ensures
