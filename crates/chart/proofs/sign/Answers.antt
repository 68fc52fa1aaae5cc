-- `sign` meets its contract: the label is 0, 1 or more.
use Rattle.std.proofs.Common.{ℕ, zero, suc, ◌≡◌, refl, sym, ap, arith}
use Rattle.chart.specs.Drawing.{sign_of}
use Rattle.chart.proofs.sign.Goals as goal

sign_other : (b : ℕ) → ¬ (b ≡ 0) → ¬ (b ≡ 1) → 111 ≡ sign_of b
unfolding sign_of
sign_other zero p q = absurd (p refl)
sign_other (suc zero) p q = absurd (q refl)
sign_other (suc (suc b)) p q = refl

pub returns-in-0 : goal.returns-in-0
unfolding sign_of
returns-in-0 c = sym (ap sign_of c.in-0.is)

pub returns-in-1 : goal.returns-in-1
unfolding sign_of
returns-in-1 c = sym (ap sign_of c.in-1.is)

pub returns-in_default : goal.returns-in_default
returns-in_default c = sign_other c.args.label (λ e. omega arith) (λ e. omega arith)
