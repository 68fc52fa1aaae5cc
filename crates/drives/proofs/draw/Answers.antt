-- `draw` meets its contract: wrapping the product first does not change the sum's remainder.
use Rattle.std.proofs.Common.{arith}
use Rattle.field.specs.Chooser.{drawn}
use Rattle.drives.proofs.draw.Goals as goal

pub returns : goal.returns
unfolding drawn
returns c = omega arith
