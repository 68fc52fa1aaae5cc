-- `across::run_on` meets its contract: its tests are the definition's, in its order.
use borrow.Author.Tests.{eq-eqb, ne_eqb}
use Rattle.field.specs.Limits.{distance_mark, no_distance_is}
use Rattle.measures.specs.Running.{onward}
use Rattle.measures.proofs.across.run_on.Goals as goal

pub returns-then-own-eq0 : goal.returns-then-own-eq0
unfolding onward
returns-then-own-eq0 c = rw (eq-eqb _ _ c.if-own-eq0.true)

pub returns-then-last-eq-NO_DISTANCE : goal.returns-then-last-eq-NO_DISTANCE
unfolding onward
returns-then-last-eq-NO_DISTANCE c = rw (ne_eqb _ _ c.if-own-eq0.false, no_distance_is, eq-eqb _ distance_mark c.if-last-eq-NO_DISTANCE.true)

pub returns : goal.returns
unfolding onward
returns c = rw (ne_eqb _ _ c.if-own-eq0.false, no_distance_is, ne_eqb _ distance_mark c.if-last-eq-NO_DISTANCE.false)
