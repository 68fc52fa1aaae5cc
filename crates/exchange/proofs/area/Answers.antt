-- `area` meets its contract: a map within the limits has a product within the limit's square.
use Rattle.std.proofs.Common.{arith}
use Rattle.field.specs.Limits.{crossings_few}
use Rattle.exchange.proofs.area.Goals as goal

pub overflow_mul-result : goal.overflow_mul-result
overflow_mul-result c = omega (arith, crossings_few c.in-Some.map.within)
