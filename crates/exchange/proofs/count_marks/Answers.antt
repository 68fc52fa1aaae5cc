-- `count_marks` meets its contract: the bytes that are not 0, counted, are the marks.
use Rattle.std.proofs.Common.{◌≡◌, refl, ◌∙◌, ℕ, zero, suc, List, [], ◌∷◌, not, ◌==◌, count_by, arith, rules, ltb, lt-ltb}
use Rattle.std.proofs.lemmas.Grind.{common_steps}
use Rattle.field.specs.Workings.Tests.{bit}
use Rattle.field.specs.Workings.MarkCount.{marks}
use Rattle.exchange.proofs.count_marks.Goals as goal

counted : (s : List ℕ) → count_by (λ b. not (b == 0)) s ≡ marks s
unfolding marks
counted [] = refl
counted (zero ∷ s) = omega (arith, counted s)
counted (suc v ∷ s) =
    let b : bit (ltb 0 (suc v)) ≡ 1 = simp (lt-ltb 0 (suc v) (omega arith)) in
    grind (arith, common_steps, counted s)

pub returns : goal.returns
returns c = let n : c.count.result ≡ count_by (λ b. not (b == 0)) c.args.sheet.now = search rules in n ∙ counted c.args.sheet.now
