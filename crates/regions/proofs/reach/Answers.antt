-- `reach` meets its promise: the pass from one end tells what has a shortest drive to it.
use Rattle.regions.proofs.RegionMade.{reach_made}
use Rattle.regions.proofs.reach.Goals as goal

pub returns : goal.returns
returns c = reach_made _ _ _ _ _ _ _ c.spread.ensures
