-- `shown` meets its contract, by its test.
use mathlib.Core.Path.{◌≡◌}
use mathlib.Core.Bool.{not}
use lib.Dec.{eqb}
use Prim.Native.Nat.{ℕ}
use native.Mathlib.Omega.{arith}
use native.Mathlib.Decide.{ℕ_discrete}
use borrow.Author.Tests.{eq-eqb, ne_eqb, le-ltb, lt-ltb}
use mir.Val.{bool_byte}
use Rattle.taking.specs.Faults.{Shown, shown_by}
use Rattle.taking.proofs.shown.Goals as goal

-- A byte is 0 or it is not.
byte_shown : (b : ℕ) → Dec (b ≡ 0) → Shown b (bool_byte (not (eqb b 0)))
unfolding shown_by
byte_shown b (yes e) = record { small = rw (eq-eqb b 0 e) (omega arith); is = rw (eq-eqb b 0 e, le-ltb 0 b (omega arith)) }
byte_shown b (no n) = record { small = rw (ne_eqb b 0 n) (omega arith); is = rw (ne_eqb b 0 n, lt-ltb 0 b (omega arith)) }

pub returns : goal.returns
returns c = rw c.from.ensures (byte_shown c.args.b (ℕ_discrete c.args.b 0))
