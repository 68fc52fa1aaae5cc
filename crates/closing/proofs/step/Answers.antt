-- `closing::step` meets its contract. Each bit that the machine computes is as `Stepped` says.
use Rattle.closing.proofs.Laws.Steps.{stepped}
use Rattle.closing.proofs.step.Goals as goal

pub returns : goal.returns
returns c = stepped c.args.v c.args.n c.args.s c.args.e c.args.w c.args.mask c.ranges.v.fits c.ranges.w.fits c.ranges.mask.fits
