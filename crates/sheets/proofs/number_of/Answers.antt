-- `number_of` meets its contract: sixteen bits hold the number, so nothing wraps.
use mathlib.Core.Path.{refl}
use native.Mathlib.Omega.{arith}
use Rattle.field.specs.Workings.Sheet.{number_lt}
use Rattle.sheets.proofs.Numbers.{number_small}
use Rattle.sheets.proofs.number_of.Goals as goal

pub overflow_mul-result : goal.overflow_mul-result
overflow_mul-result c = omega (arith, number_small c.args.map.within c.requires)

pub overflow_add-result : goal.overflow_add-result
overflow_add-result c = omega (arith, number_small c.args.map.within c.requires)

pub returns : goal.returns
returns c = record { is = refl; below = number_lt _ _ _ _ c.requires; small = number_small c.args.map.within c.requires }
