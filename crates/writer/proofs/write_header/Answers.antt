-- `write_header` meets its contract: the pieces are the header's, one after the other.
use Rattle.std.proofs.Common.{◌≡◌, refl, ◌∙◌, ap, ℕ, List, [], ◌∷◌, append_assoc, arith, length}
use Rattle.std.proofs.Math.ListN.{set}
use Rattle.writer.specs.Digits.{digits_of, header_of}
use Rattle.writer.proofs.write_header.Goals as goal

-- A slice of one byte, once it is written.
one_put : (l : List ℕ) (v : ℕ) → length l ≡ 1 → set l 0 v ≡ v ∷ []
one_put [] v e = absurd (omega arith)
one_put (a ∷ []) v e = refl
one_put (a ∷ b ∷ l) v e = absurd (omega arith)

pub returns : goal.returns
unfolding header_of
returns c =
    let a = c.args in
    let w : c.write_number.new.out ≡ digits_of a.a a.w = c.write_number.ensures ∙ ap (λ (n : ℕ). digits_of n a.w) (omega arith) in
    let h : c.write_number-2.new.out ≡ digits_of a.b a.h = c.write_number-2.ensures ∙ ap (λ (n : ℕ). digits_of n a.h) (omega arith) in
    let space = one_put c.split_at_mut-space.result.0.now 32 (omega arith) in
    let end = one_put c.split_at_mut-height.result.1.now 10 (omega arith) in
    rw (c.write_letters.ensures, w, h, space, end) (simp append_assoc)
