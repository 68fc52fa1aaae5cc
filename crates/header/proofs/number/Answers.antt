-- `number` meets its contract: the loop keeps Numbering, and the value stays small enough for a
-- tenth of what a `usize` holds.
use native.Mathlib.Omega.{arith}
use Rattle.std.proofs.lemmas.Bool.Decides.{not_from_Decides}
use Rattle.header.proofs.Numbering.{value_small, numbering_more, numbering_many, numbering_stop, numbering_end}
use Rattle.header.proofs.number.Goals as goal

pub returns-then-not-is_digit : goal.returns-then-not-is_digit
returns-then-not-is_digit c =
    numbering_stop c.loop-i.invariant c.numeral_end.result c.loop-i-test.true
    (not_from_Decides _ c.is_digit.ensures c.if-not-is_digit.true)
    c.numeral_end.ensures

pub returns-then-i-at-eq-MOST_DIGITS : goal.returns-then-i-at-eq-MOST_DIGITS
returns-then-i-at-eq-MOST_DIGITS c =
    numbering_many c.loop-i.invariant c.loop-i-test.true (c.is_digit.ensures.0 c.if-not-is_digit.false) c.if-i-at-eq-MOST_DIGITS.true

pub overflow_mul-v : goal.overflow_mul-v
overflow_mul-v c = omega (arith, value_small c.loop-i.invariant)

pub overflow_add-v : goal.overflow_add-v
overflow_add-v c =
    omega (arith, c.from.ensures, (c.is_digit.ensures.0 c.if-not-is_digit.false).to_nine, value_small c.loop-i.invariant)

pub loop-i-preserved : goal.loop-i-preserved
loop-i-preserved c =
    rw c.from.ensures (numbering_more c.loop-i.invariant c.loop-i-test.true (c.is_digit.ensures.0 c.if-not-is_digit.false) c.if-i-at-eq-MOST_DIGITS.false)

pub returns : goal.returns
returns c = numbering_end c.loop-i.invariant c.numeral_end-2.result c.loop-i-test.false c.numeral_end-2.ensures
