-- `step` meets its contract: what the sweep put behind has the numbers of crossings.
use Rattle.sweeping.proofs.Laws.Sweeping.{settles_behind}
use Rattle.sweeping.proofs.step.Goals as goal

pub settle-requires : goal.settle-requires
settle-requires c = settles_behind c.args.map.within c.requires c.sweep-n.ensures
