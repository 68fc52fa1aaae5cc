-- `check` meets its contract: an empty list, a wrong start, a closed one, or the rest of the list.
use Rattle.std.proofs.Common.{arith}
use Rattle.std.proofs.lemmas.Bool.Decides.{nat_tests}
use Rattle.field.specs.Workings.Checking.{check_of}
use Rattle.checks.proofs.Whole.{finding}
use Rattle.checks.proofs.check.Goals as goal

pub returns-then-at-gt0 : goal.returns-then-at-gt0
unfolding check_of
returns-then-at-gt0 c = finding _ _ _ c.requires (rw c.in-Some.ensures.cases.0 (grind (arith, nat_tests)))

pub returns : goal.returns
unfolding check_of
returns c = finding _ _ _ c.requires (rw c.in-Some.ensures.cases.0 (grind (arith, nat_tests)))
