-- `write_largest` meets its contract: the five digits and LF fill the slice.
use Rattle.std.proofs.Common.{◌≡◌, refl, ℕ, List, [], ◌∷◌, arith, length}
use Rattle.std.proofs.Math.ListN.{set}
use Rattle.field.specs.Limits.{largest_is}
use Rattle.picturing.proofs.write_largest.Goals as goal

-- A slice of one byte, once it is written.
one_put : (l : List ℕ) (v : ℕ) → length l ≡ 1 → set l 0 v ≡ v ∷ []
one_put [] v e = absurd (omega arith)
one_put (a ∷ []) v e = refl
one_put (a ∷ b ∷ l) v e = absurd (omega arith)

pub returns : goal.returns
returns c =
    let five : length c.split_at_mut-number.result.0.now ≡ 5 = omega arith in
    let end = one_put c.split_at_mut-number.result.1.now 10 (omega arith) in
    rw (c.write_number.ensures, end, five, largest_is) refl
