-- `one_blank` meets its contract: the byte at the place is a blank, and the rest begins after it;
-- or it is none, or there is no byte.
use native.Mathlib.Omega.{arith}
use Rattle.std.proofs.lemmas.Bool.Decides.{not_from_Decides}
use Rattle.header.proofs.Heading.{blank_last, blank_other, blank_none}
use Rattle.header.proofs.one_blank.Goals as goal
use Rattle.header.proofs.one_blank.Goals.{else-at-src-via-then-at-src+else-is_blank, else-at-src-via-else-at-src}

pub returns-then-is_blank : goal.returns-then-is_blank
returns-then-is_blank c =
    (omega arith, blank_last c.args.src.now c.args.at c.if-at-src.true (c.is_blank.ensures.0 c.if-is_blank.true))

pub returns : goal.returns
returns c =
    let a = c.args in
    elim c.else-at-src.branch [
      | else-at-src-via-then-at-src+else-is_blank w ↦ blank_other a.src.now a.at w.if-at-src.true (not_from_Decides _ w.is_blank.ensures w.if-is_blank.false)
      | else-at-src-via-else-at-src w ↦ blank_none a.src.now a.at w.if-at-src.false
    ]
