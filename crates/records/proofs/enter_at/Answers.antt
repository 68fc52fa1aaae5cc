-- `enter_at` meets its contract: the slot is opened down to the marker's place.
use Rattle.std.proofs.Common.{arith}
use Rattle.records.proofs.Opening.{opening_end}
use Rattle.records.proofs.enter_at.Goals as goal

pub returns : goal.returns
returns c = opening_end _ _ c.requires.may c.requires.belongs (omega arith) c.loop-k.invariant.0
