-- `looks::north_south` meets its contract: the hop is on the map, and what stands there is what the
-- definition looks at.
use Rattle.regions.proofs.LookLaws.{column_hop_on, north_south_off, north_south_looks}
use Rattle.regions.proofs.looks.north_south.Goals as goal

pub at-requires : goal.at-requires
at-requires c = rw c.hop.ensures (column_hop_on c.requires c.if-p-end.true)

pub returns-then-p-end : goal.returns-then-p-end
returns-then-p-end c = north_south_looks c.requires _ c.if-p-end.true c.hop.ensures c.at.ensures

pub returns-else-p-end : goal.returns-else-p-end
returns-else-p-end c = north_south_off _ _ _ c.args.end.x _ c.args.p.x _ c.if-p-end.false
