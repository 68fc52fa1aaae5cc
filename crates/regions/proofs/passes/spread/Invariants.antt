-- `passes::spread` meets its contract: its closure gives 1 where a crossing is open, and else 0.
use Rattle.regions.specs.Passes.{free}
use Rattle.regions.proofs.passes.spread.Given as goal

abbrev pub ghost-pass : goal.ghost-pass
ghost-pass a = free a.f.0.now.cells.now a.map.w
