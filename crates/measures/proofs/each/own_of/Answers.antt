-- `each::own_of` meets its contract: none where there is no mark.
use mathlib.Core.Path.{sym}
use Rattle.field.specs.Limits.{no_distance_is}
use Rattle.measures.proofs.each.own_of.Goals as goal

pub returns-then-mark-eq0 : goal.returns-then-mark-eq0
returns-then-mark-eq0 c = record { closed = λ n. absurd (n c.if-mark-eq0.true); free = λ e. sym no_distance_is }
