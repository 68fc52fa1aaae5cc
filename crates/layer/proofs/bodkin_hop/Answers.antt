-- `bodkin_hop` keeps its promise, whether the first part told the map's size or a refusal.
use Rattle.layer.proofs.Handing.{ends_asked, hop_answered}
use Rattle.layer.proofs.bodkin_hop.Goals as goal

pub hop-requires : goal.hop-requires
hop-requires c = ends_asked c.prepare-first.result c.prepare-first.ensures

pub returns : goal.returns
returns c = hop_answered c.prepare-first.result c.hop.result c.prepare-first.ensures c.hop.ensures
