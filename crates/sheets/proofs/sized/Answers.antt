-- `sized` meets its contract: its limit is the map's.
use mathlib.Core.Path.{refl}
use native.Mathlib.Omega.{arith}
use Rattle.field.specs.Limits.{side_number, side_is}
use Rattle.sheets.proofs.sized.Goals as goal

pub returns-then-w-eq0 : goal.returns-then-w-eq0
returns-then-w-eq0 c = λ s. omega (arith, s.some_w)

pub returns-then-h-eq0 : goal.returns-then-h-eq0
returns-then-h-eq0 c = λ s. omega (arith, s.some_h)

pub returns-then-w-gt-SIDE : goal.returns-then-w-gt-SIDE
returns-then-w-gt-SIDE c = λ s. omega (arith, s.most_w, side_is)

pub returns-then-h-gt-SIDE : goal.returns-then-h-gt-SIDE
returns-then-h-gt-SIDE c = λ s. omega (arith, s.most_h, side_is)

pub invariant_of-result : goal.invariant_of-result
invariant_of-result c = record { within = record { some_w = omega arith; some_h = omega arith; most_w = omega (arith, side_is); most_h = omega (arith, side_is) } }

pub returns : goal.returns
returns c = record { width = refl; height = refl }
