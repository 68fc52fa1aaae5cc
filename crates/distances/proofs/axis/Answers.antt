-- `axis` meets its contract: above home, below it, and level with it.
use mathlib.Core.Path.{sym, ap, ◌∙◌}
use Prim.Native.Nat.{ℕ}
use native.Mathlib.Omega.{arith}
use Rattle.field.specs.Map.{gap}
use Rattle.field.specs.Workings.Looking.{enough_of}
use Rattle.field.proofs.Workings.AssuredLaws.{axis_level, axis_above, axis_below}
use Rattle.distances.proofs.axis.Goals as goal

pub returns-then-m-p : goal.returns-then-m-p
unfolding gap
returns-then-m-p c =
    let a = c.args in
    c.enough.ensures ∙ ap (λ (k : ℕ). enough_of k a.up) (omega arith) ∙ sym (axis_above a.up a.down a.m a.p (omega arith))

pub returns-then-p-m : goal.returns-then-p-m
unfolding gap
returns-then-p-m c =
    let a = c.args in
    c.enough-then-p-m.ensures ∙ ap (λ (k : ℕ). enough_of k a.down) (omega arith) ∙ sym (axis_below a.up a.down a.m a.p (omega arith))

pub returns : goal.returns
returns c = sym (axis_level _ _ _ _ (omega arith))
