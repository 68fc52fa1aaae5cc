-- `bodkin_hop_by` keeps its promise: what was found before tells the rows up to 20, and the second
-- part the rest.
use Rattle.layer.proofs.Handing.{hop_by_asked, hop_by_answered}
use Rattle.layer.proofs.morning.bodkin_hop_by.Goals as goal

pub hop_by-requires : goal.hop_by-requires
hop_by-requires c = hop_by_asked c.look_at-first.result c.look_at-first.ensures

pub returns : goal.returns
returns c = hop_by_answered c.look_at-first.result c.hop_by.result c.look_at-first.ensures c.hop_by.ensures
