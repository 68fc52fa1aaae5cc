-- `labels::label` meets its contract. There are words enough for as many rows as may be.
use Rattle.std.proofs.Common.{arith}
use Rattle.rows.specs.Layout.{sides_h}
use Rattle.labels.proofs.label.Goals as goal

pub label_in-requires-2-clause-room : goal.label_in-requires-2-clause-room
label_in-requires-2-clause-room c = omega (arith, sides_h c.args.map.within)
