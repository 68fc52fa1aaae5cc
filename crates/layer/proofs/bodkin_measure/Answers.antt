-- `bodkin_measure` keeps its promise, whether the first part told the map's size or a refusal.
use Rattle.layer.proofs.Handing.{measure_asked, measure_answered}
use Rattle.layer.proofs.bodkin_measure.Goals as goal

pub measure-requires : goal.measure-requires
measure-requires c = measure_asked c.args.east.now c.args.south.now c.args.west.now c.args.north.now c.four_fit-others.ensures c.prepare-first.result c.prepare-first.ensures

pub returns : goal.returns
returns c = measure_answered c.args.east.now c.args.south.now c.args.west.now c.args.north.now c.four_fit-others.ensures c.prepare-first.result c.measure.result c.prepare-first.ensures c.measure.ensures
