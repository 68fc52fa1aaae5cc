-- `has_room` meets its contract: the first bound holds, and the second is the answer.
use native.Mathlib.Omega.{arith}
use borrow.Author.Tests.{leb-true, le-leb}
use Rattle.field.specs.Limits.{most_markers_is}
use Rattle.reader.proofs.has_room.Goals as goal

pub returns-then-rocks-lent : goal.returns-then-rocks-lent
returns-then-rocks-lent c = (
  λ e. let few = leb-true c.args.rocks _ e in record { room = omega arith; few = omega (arith, most_markers_is) },
  λ s. le-leb c.args.rocks _ (omega (arith, s.few, most_markers_is)),
)
