-- `headless` meets its contract: 13 where the input ends or no header can come, and else nothing is
-- told.
use Rattle.std.proofs.lemmas.Bool.Decides.{not_from_Decides}
use Rattle.following.proofs.Telling.{header_end, header_wait, header_bad}
use Rattle.following.proofs.headless.Goals as goal
use Rattle.following.proofs.headless.Goals.{else-not-ended-via-then-not-ended+else-header_cut, else-not-ended-via-else-not-ended}

pub returns-then-header_cut : goal.returns-then-header_cut
returns-then-header_cut c = λ out. header_wait c.requires c.if-not-ended.true (c.header_cut.ensures.0 c.if-header_cut.true)

pub returns : goal.returns
returns c =
    λ out.
    elim c.else-not-ended.branch [
      | else-not-ended-via-then-not-ended+else-header_cut w ↦ header_bad c.requires (not_from_Decides _ w.header_cut.ensures w.if-header_cut.false)
      | else-not-ended-via-else-not-ended w ↦ header_end c.requires w.if-not-ended.false
    ]
