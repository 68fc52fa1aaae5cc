-- `chooser::takes_row` meets its contract: with two candidates the top bit is looked at.
use Rattle.drives.proofs.ChoiceLaws.{taken_two}
use Rattle.drives.proofs.chooser.takes_row.Goals as goal

pub returns-else-not-column : goal.returns-else-not-column
returns-else-not-column c = taken_two _ c.if-row.true c.if-not-column.false
