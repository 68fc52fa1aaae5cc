-- `assured` meets its contract: both ends open, and on each axis the test of home's distances.
use borrow.Author.Rules.{rules}
use Rattle.distances.specs.Assuring.{told_no, unmarked_open, row_fails, column_tells}
use Rattle.distances.proofs.assured.Goals as goal

pub returns-then-axis : goal.returns-then-axis
returns-then-axis c =
    column_tells c.distances.ensures (unmarked_open c.at.ensures (search rules) (search rules))
    (unmarked_open c.at-else-at-ne0.ensures (search rules) (search rules)) c.axis.ensures c.if-axis.true
    c.axis-then-axis.ensures

pub returns-else-axis : goal.returns-else-axis
returns-else-axis c = rw c.if-axis.false (told_no (row_fails c.distances.ensures c.axis.ensures c.if-axis.false))
