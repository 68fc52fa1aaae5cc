-- The crossings of a word of a row, and of which word a crossing is.
use mathlib.Core.Path.{◌≡◌}
use Prim.Native.Nat.{ℕ, ◌*◌, ◌/◌, ◌<◌, ◌≤◌}
use native.Mathlib.Omega.{arith}
use Rattle.bits.specs.Bit.{Mask}
use Rattle.rows.specs.Layout.{words, spot}
use Rattle.rows.specs.Rows.{WidthAt, MaskAt}

pub mask_at : {w j n m : ℕ} → WidthAt w j n → Mask n m → MaskAt w j m
mask_at p q = record { has = λ i l k. q.has i (p.all i l k); only = λ i e. omega (arith, p.in_row, q.only i e) }

-- The crossings whose bits stand in word j of row y.
pub at_word : {w y j : ℕ} (x z : ℕ) → w ≤ 64 * words → 64 * j < w → x < w → spot z (x / 64) ≡ spot y j → (z ≡ y) × (x / 64 ≡ j)
at_word x z l m n e = (omega arith, omega arith)
