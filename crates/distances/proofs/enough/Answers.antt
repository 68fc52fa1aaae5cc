-- `enough` meets its contract: it makes the comparison of the definition.
use native.Mathlib.Omega.{arith}
use borrow.Author.Rules.{rules}
use borrow.Author.Tests.{eq-eqb, ne_eqb}
use Rattle.field.specs.Limits.{distance_mark, no_distance_is}
use Rattle.field.specs.Workings.Looking.{enough_of}
use Rattle.distances.proofs.enough.Goals as goal

pub returns-then-n-eq-NONE : goal.returns-then-n-eq-NONE
unfolding enough_of
returns-then-n-eq-NONE c = rw (no_distance_is, eq-eqb c.args.n distance_mark (omega arith))

pub returns-else-n-eq-NONE : goal.returns-else-n-eq-NONE
unfolding enough_of
returns-else-n-eq-NONE c = rw (no_distance_is, ne_eqb c.args.n distance_mark (omega arith)) (search rules)
