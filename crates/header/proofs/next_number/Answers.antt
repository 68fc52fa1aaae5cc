-- `next_number` meets its contract: the number is read from where the separator ends, and where
-- there is no separator there is no number.
use Rattle.header.proofs.Heading.{next_some, next_none}
use Rattle.header.proofs.next_number.Goals as goal

pub returns-in_err-start : goal.returns-in_err-start
returns-in_err-start c = rw c.from_residual.ensures (next_none _ c.in_err-start.ensures)

pub returns : goal.returns
returns c = rw (next_some _ _ c.in_ok-start.ensures.1) c.number.ensures
