-- `Span::between` meets its contract: no side is so long that a place more would wrap.
use native.Mathlib.Omega.{arith}
use Rattle.field.specs.Limits.{side_is}
use Rattle.meetings.proofs.search.Span.between.Goals as goal

pub overflow_add-result : goal.overflow_add-result
overflow_add-result c = omega (arith, side_is)
