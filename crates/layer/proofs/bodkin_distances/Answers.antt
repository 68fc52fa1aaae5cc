-- `bodkin_distances` keeps its promise, whether the first part told the map's size or a refusal.
use Rattle.layer.proofs.Handing.{distances_asked, distances_answered}
use Rattle.layer.proofs.bodkin_distances.Goals as goal

pub distances-requires : goal.distances-requires
distances-requires c = distances_asked c.prepare-first.result c.prepare-first.ensures

pub returns : goal.returns
returns c = distances_answered c.prepare-first.result c.distances.result c.prepare-first.ensures c.distances.ensures
