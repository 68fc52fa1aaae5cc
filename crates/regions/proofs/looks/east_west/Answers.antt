-- `looks::east_west` meets its contract: the hop is on the map, and what stands there is what the
-- definition looks at.
use Rattle.regions.proofs.LookLaws.{row_hop_on, east_west_off, east_west_looks}
use Rattle.regions.proofs.looks.east_west.Goals as goal

pub at-requires : goal.at-requires
at-requires c = rw c.hop.ensures (row_hop_on c.requires c.if-p-end.true)

pub returns-then-p-end : goal.returns-then-p-end
returns-then-p-end c = east_west_looks c.requires _ c.if-p-end.true c.hop.ensures c.at.ensures

pub returns-else-p-end : goal.returns-else-p-end
returns-else-p-end c = east_west_off _ _ _ _ c.args.end.y _ c.args.p.y c.if-p-end.false
