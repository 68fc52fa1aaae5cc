-- `look` meets its contract: what is 0 or new counts as open.
use Rattle.std.proofs.Common.{sym, ◌∙◌, arith}
use Rattle.sweeping.proofs.Laws.Before.{looked_open, looked_new, looked_closed}
use Rattle.sweeping.proofs.look.Goals as goal
use Rattle.sweeping.proofs.look.Goals.{else-b-ne0-via-then-b-ne0+else-b-lt-NEW, else-b-ne0-via-else-b-ne0}

pub returns-then-b-lt-NEW : goal.returns-then-b-lt-NEW
returns-then-b-lt-NEW c =
    let b = c.at-b.ensures in
    rw c.in-Some.is (looked_closed _ _ _ _ _ (rw c.in-Some.is at c.requires) (omega (arith, b, c.if-b-ne0.true)) (omega (arith, b, c.if-b-lt-NEW.true)))

pub returns-else-b-ne0 : goal.returns-else-b-ne0
returns-else-b-ne0 c =
    let b = c.at-b.ensures in
    rw c.in-Some.is
    (elim c.else-b-ne0.branch [
      | else-b-ne0-via-then-b-ne0+else-b-lt-NEW w ↦ looked_new _ _ _ _ _ (omega (arith, b, w.if-b-lt-NEW.false))
      | else-b-ne0-via-else-b-ne0 w ↦ looked_open _ _ _ _ _ (sym b ∙ w.if-b-ne0.false)
    ])
