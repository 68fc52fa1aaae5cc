-- `join` meets its promise. What `lines` says settles refusal 19, the route's length refusal 10,
-- and the drive that is written is the one by way of where the lines meet.
use Rattle.meetings.proofs.ByWayLaws.{whole_drive}
use Rattle.meetings.proofs.join.Goals as goal

pub sure_region-requires-clause-some : goal.sure_region-requires-clause-some
sure_region-requires-clause-some c = whole_drive c.args.s.map.within c.requires c.in-Some.ensures.column_open c.in-Some.ensures.row_open
