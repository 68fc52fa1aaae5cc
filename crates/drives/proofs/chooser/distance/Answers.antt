-- `chooser::distance` meets its contract: no distance of a map within the limits is large.
use Rattle.std.proofs.Common.{arith}
use Rattle.field.specs.Map.{gap}
use Rattle.drives.proofs.RouteLaws.{dist_small}
use Rattle.drives.proofs.chooser.distance.Goals as goal

pub overflow_add-result : goal.overflow_add-result
unfolding gap
overflow_add-result c = omega (arith, dist_small c.args.map.within c.requires)

pub returns : goal.returns
unfolding gap
returns c = record { is = omega arith; small = omega (arith, dist_small c.args.map.within c.requires) }
