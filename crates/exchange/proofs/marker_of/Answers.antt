-- `marker_of` meets its contract: a place on a map within the limits has a column and a row that
-- fit a marker's fields. Each cast is told of all three numbers, so that a marker with one in
-- another's place is refused for what it says and not for its size.
use Rattle.std.proofs.Common.{refl, arith}
use Rattle.field.specs.Limits.{tallest_is}
use Rattle.exchange.proofs.Rocks.{mark_fits}
use Rattle.exchange.proofs.marker_of.Goals as goal

pub overflow_add-id : goal.overflow_add-id
overflow_add-id c = omega (arith, mark_fits c.args.map.within c.requires)

pub overflow_cast-at : goal.overflow_cast-at
overflow_cast-at c = omega (arith, mark_fits c.args.map.within c.requires)

pub overflow_cast-row : goal.overflow_cast-row
overflow_cast-row c = omega (arith, mark_fits c.args.map.within c.requires)

pub overflow_cast-rows : goal.overflow_cast-rows
overflow_cast-rows c = omega (arith, mark_fits c.args.map.within c.requires)

pub overflow_add-rows : goal.overflow_add-rows
overflow_add-rows c = omega (arith, mark_fits c.args.map.within c.requires)

pub overflow_sub-y : goal.overflow_sub-y
overflow_sub-y c = omega (arith, mark_fits c.args.map.within c.requires)

pub overflow_cast-result : goal.overflow_cast-result
overflow_cast-result c = omega (arith, mark_fits c.args.map.within c.requires)

pub overflow_cast-result-2 : goal.overflow_cast-result-2
overflow_cast-result-2 c = omega (arith, mark_fits c.args.map.within c.requires)

pub overflow_cast-result-3 : goal.overflow_cast-result-3
overflow_cast-result-3 c = omega (arith, mark_fits c.args.map.within c.requires)

pub returns : goal.returns
returns c = rw tallest_is refl
