-- `put_line` meets its contract: each number goes behind those so far, and the last ends the line.
use Rattle.std.proofs.Common.{◌-◌, ◌<◌, ◌≡◌, length, refl, arith, length-take-le}
use Rattle.std.proofs.Math.Seq.{get_or-take}
use Rattle.printing.proofs.Lines.{begun_next, begun_ends}
use Rattle.printing.proofs.put_line.Goals as goal

pub loop-v-preserved : goal.loop-v-preserved
loop-v-preserved c =
    let vs = c.args.numbers.now in
    let here : c.loop-v.v-index < length vs - 1 = omega (arith, length-take-le (length vs - 1) vs (omega arith)) in
    begun_next vs (omega arith) (get_or-take (length vs - 1) vs c.loop-v.v-index 0 here) (omega arith) c.loop-v.invariant
    c.put_number-end.ensures

pub returns : goal.returns
returns c =
    let vs = c.args.numbers.now in
    let last : c.loop-v.v-index ≡ length vs - 1 = omega (arith, length-take-le (length vs - 1) vs (omega arith)) in
    begun_ends vs (omega arith) (rw last refl) (omega arith) (omega arith) c.loop-v.invariant c.put_number.ensures
