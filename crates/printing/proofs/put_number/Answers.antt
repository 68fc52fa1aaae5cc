-- `put_number` meets its contract: as many digits as the number is printed with stand in their own
-- part of the output, and the byte behind them.
use Rattle.printing.specs.Printed.{most_printed}
use Prim.Native.Nat.{ℕ, ◌+◌, ◌-◌, ◌^◌, ◌<◌, ◌≤◌}
use native.Mathlib.Omega.{arith}
use mathlib.Core.Path.{◌≡◌, refl, ap, ◌∙◌}
use mathlib.Core.List.{List, [], ◌∷◌, ◌++◌, append_assoc}
use lib.ListN.{length, take, set}
use borrow.Rule.Slice.PartMut.{mid_of, put_mid}
use Rattle.writer.specs.Digits.{DigitCount, digits_of}
use Rattle.writer.specs.DigitLaws.{digits_few}
use Rattle.packing.proofs.Filling.{filled_as, filled_byte, filled_lent, filled_part}
use Rattle.printing.specs.Parts.{Put}
use Rattle.printing.proofs.Putting.{filled_self, filled_put}
use Rattle.printing.specs.PrintLaws.{digits_printed}
use Rattle.printing.proofs.put_number.Goals as goal

-- The number has no more digits than there is room for.
few : {v n : ℕ} → DigitCount v n → v < 2 ^ 64 → n ≤ most_printed
few c l = digits_few c most_printed (omega arith) (omega arith)

-- The digits are put where the number is to stand, and the byte behind them.
module _ (out num : List ℕ) (at n v mark : ℕ) (room : at + n < length out) (kept : length num ≡ length (mid_of at (at + n - at) out)) where
  digits_lent : length (mid_of at (at + n - at) out) ≡ n
  digits_lent = filled_lent (take at out) at out out (filled_self at out (omega arith)) (at + n) (omega arith) ∙ omega arith

  number_put : Put out at (num ++ mark ∷ []) (set (put_mid at (at + n - at) out num) (at + n) mark) (at + n + 1)
  number_put =
      let before = filled_self at out (omega arith) in
      let digits = filled_part (take at out) at out out before (at + n) num (omega arith) (omega arith) kept in
      let byte = filled_byte (take at out ++ num) (at + n) out (put_mid at (at + n - at) out num) digits mark room in
      filled_put out at (at + n + 1) (num ++ mark ∷ []) _ (omega arith)
      (filled_as _ _ _ _ out _ byte (append_assoc (take at out) num (mark ∷ [])) refl)

pub overflow_add-end : goal.overflow_add-end
overflow_add-end c = omega (arith, few c.digit_count.ensures c.ranges.v.fits)

pub slice_bounds-write_number-end : goal.slice_bounds-write_number-end
slice_bounds-write_number-end c = omega (arith, few c.digit_count.ensures c.ranges.v.fits)

pub bounds-out-end : goal.bounds-out-end
bounds-out-end c = omega (arith, few c.digit_count.ensures c.ranges.v.fits, c.write_number.auto.out)

pub overflow_add-result : goal.overflow_add-result
overflow_add-result c = omega (arith, few c.digit_count.ensures c.ranges.v.fits)

pub returns : goal.returns
returns c =
    let a = c.args in
    let p = c.requires in
    let n = c.digit_count in
    let num = c.write_number in
    let digits = few c.digit_count.ensures c.ranges.v.fits in
    let room : a.at + n.result < length a.out.now = omega (arith, p, digits) in
    let lent = digits_lent a.out.now num.new.out a.at n.result a.v a.mark room num.auto.out in
    let is : num.new.out ≡ digits_of n.result a.v = num.ensures ∙ ap (λ (k : ℕ). digits_of k a.v) lent in
    record {
      piece = num.new.out ++ a.mark ∷ [];
      right = record {
        digits = num.new.out;
        printed = rw is (digits_printed n.ensures);
        few = omega (arith, num.auto.out, lent, digits);
        is = refl;
      };
      put = number_put a.out.now num.new.out a.at n.result a.v a.mark room num.auto.out;
    }
