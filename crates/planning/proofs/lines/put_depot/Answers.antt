-- `put_depot` meets its contract: the corner's numbers are put as a line, and added to the sums.
use Rattle.planning.specs.LineLaws.{placed_most}
use Rattle.planning.proofs.Telling.{sums_fit}
use Rattle.planning.proofs.lines.put_depot.Goals as goal

pub add-requires : goal.add-requires
add-requires c = sums_fit c.requires.addable (placed_most c.args.s.map.within c.numbers-p.ensures)
