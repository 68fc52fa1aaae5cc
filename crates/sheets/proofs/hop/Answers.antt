-- `hop` meets its contract: up where d lies above p, and else down.
use mathlib.Core.Path.{sym}
use Rattle.field.proofs.Workings.AxisLaws.{hop_up, hop_down}
use Rattle.sheets.proofs.hop.Goals as goal

pub returns-then-p-d : goal.returns-then-p-d
returns-then-p-d c = sym (hop_up _ _ c.if-p-d.true)

pub returns : goal.returns
returns c = sym (hop_down _ _ c.if-p-d.false)
