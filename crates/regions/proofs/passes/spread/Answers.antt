-- `passes::spread` meets its contract: its closure gives 1 where a crossing is open, and else 0.
use Rattle.std.proofs.Common.{rules}
use Rattle.regions.proofs.passes.spread.Goals as goal

pub pass-requires : goal.pass-requires
pass-requires c κs within = (search rules, (c.requires, record { called = λ x y o q. search rules; told = λ x y u o q e. search rules }))
