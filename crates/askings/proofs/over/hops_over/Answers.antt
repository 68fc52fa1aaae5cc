-- The rows of a hop in their order: 8, then 11, and then what the hop answers.
use Rattle.std.proofs.Common.{refl, inr}
use Rattle.askings.proofs.Bridge.{hops_told}
use Rattle.askings.proofs.over.hops_over.Goals as goal

pub returns : goal.returns
returns c =
    record {
      given = inr (c.in_ok-open_ends.ensures, inr (λ f. f (c.assured.ensures.0 c.if-not-assured.false), refl));
      answer = hops_told c.hop.result c.hop.ensures;
    }
