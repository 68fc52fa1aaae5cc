-- One step of a running number: where the crossing is closed, where the neighbour has none, and
-- elsewhere. The mask and the tests agree.
use mathlib.Core.Path.{◌≡◌, refl, sym, ap, ◌∙◌}
use mathlib.Core.Logic.{inl, inr}
use Prim.Native.Nat.{ℕ, ◌+◌, ◌<◌, ◌≤◌}
use native.Mathlib.Omega.{arith}
use borrow.Author.Tests.{eq-eqb, ne_eqb}
use lib.Bits.{bit_and, and_mask, and_zero_r}
use Rattle.field.specs.Map.{side, no_distance}
use Rattle.field.specs.Limits.{side_is, no_distance_is}
use Rattle.measures.specs.Running.{counted, onward, Own}

-- A side's length is far below the mark for none.
pub far_fits : side + side ≤ no_distance
far_fits = omega (arith, side_is, no_distance_is)

-- The mark for none has every bit set.
none_masks : (n : ℕ) → n ≤ no_distance → bit_and n no_distance ≡ n
none_masks n l = ap (bit_and n) no_distance_is ∙ omega (arith, no_distance_is, and_mask n 16)

none_some : no_distance ≡ 0 → ⊥
none_some e = omega (arith, no_distance_is)

-- At a closed crossing, and at an open one.
pub onward_closed : (l : ℕ) {o : ℕ} → o ≡ 0 → onward l o ≡ 0
unfolding onward
onward_closed l {o} e = rw (eq-eqb o 0 e)

pub onward_none : onward no_distance no_distance ≡ no_distance
unfolding onward
onward_none = rw (ne_eqb no_distance 0 none_some, eq-eqb no_distance no_distance refl)

onward_free : {l o : ℕ} → o ≡ no_distance → l < no_distance → onward l o ≡ l + 1
unfolding onward
onward_free {l} {o} e p = rw (ne_eqb o 0 (λ z. none_some (sym e ∙ z)), ne_eqb l no_distance (λ z. omega arith))

-- The mask does what the tests do.
pub counted_onward : {l o : ℕ} → Own o → l < no_distance → counted l o ≡ onward l o
unfolding counted
counted_onward {l} {o} (inl e) p = ap (bit_and (l + 1)) e ∙ and_zero_r (l + 1) ∙ sym (onward_closed l e)
counted_onward {l} {o} (inr e) p = ap (bit_and (l + 1)) e ∙ none_masks (l + 1) (omega arith) ∙ sym (onward_free e p)
