-- `each_row` meets its contract: after r turns the first r rows stand at the front.
use Rattle.std.proofs.Common.{◌≡◌, refl, ◌∙◌, ap, sym, ℕ, ◌+◌, ◌*◌, ◌-◌, ◌≤◌, List, ◌++◌, arith, length, take}
use Rattle.std.proofs.lemmas.Slice.{take-put_mid}
use borrow.Rule.Slice.PartMut.{mid_of, put_mid, mid_len}
use Rattle.packing.specs.Packing.{pieces}
use Rattle.packing.specs.PackingLaws.{pieces_more, row_ends}
use Rattle.packing.proofs.each_row.Goals as goal

-- One row more.
more : {A : Type 0} (f : ℕ → List A) (r row : ℕ) (out part : List A) → r * row ≤ length out → take (r * row) out ≡ pieces r f
    → length part ≡ row → part ≡ f r → take ((r + 1) * row) (put_mid (r * row) (r * row + row - r * row) out part) ≡ pieces (r + 1) f
more {A} f r row out part whole front long is =
    take-put_mid (r * row) (r * row + row - r * row) out part ((r + 1) * row) (omega arith) whole
    ∙ ap (λ (l : List A). l ++ part) front
    ∙ ap (λ (l : List A). pieces r f ++ l) is
    ∙ sym (pieces_more r f)

pub loop-r-init : goal.loop-r-init
unfolding pieces
loop-r-init g c = let none : 0 * c.args.row ≡ 0 = omega arith in rw none refl

pub loop-r-preserved : goal.loop-r-preserved
loop-r-preserved g c =
    let l = c.loop-r in
    let row = c.args.row in
    let end : l.r * row + row ≤ length l.out = row_ends l.r c.args.h row _ c.loop-r-test.true (omega arith) in
    let lent : length (mid_of (l.r * row) (l.r * row + row - l.r * row) l.out) ≡ row = mid_len _ _ l.out end ∙ omega arith in
    more g.rows l.r row l.out c.put.new.arg3 (omega arith) l.invariant (c.put.auto.arg3 ∙ lent)
    (c.requires.1.1.1.1 l.r _ _ c.loop-r-test.true lent c.put.ensures)
