-- `bodkin_lines` keeps its promise, whether the first part told the map's size or a refusal.
use Rattle.layer.proofs.Handing.{ends_asked, lines_answered}
use Rattle.layer.proofs.bodkin_lines.Goals as goal

pub lines-requires : goal.lines-requires
lines-requires c = ends_asked c.prepare-first.result c.prepare-first.ensures

pub returns : goal.returns
returns c = lines_answered c.prepare-first.result c.lines.result c.prepare-first.ensures c.lines.ensures
