-- `passes::sift` meets its contract: its closure gives the mark that stands there.
use Rattle.field.specs.Map.{at}
use Rattle.regions.proofs.passes.sift.Given as goal

abbrev pub ghost-pass : goal.ghost-pass
ghost-pass a = at a.g.now a.map.w
