-- `rows::words_of` meets its contract: the limit keeps the sum small.
use Rattle.std.proofs.Common.{arith}
use Rattle.rows.specs.Layout.{sides_w}
use Rattle.rows.proofs.words_of.Goals as goal

pub overflow_add-result : goal.overflow_add-result
overflow_add-result c = omega (arith, sides_w c.args.map.within)
