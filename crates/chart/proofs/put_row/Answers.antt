-- `put_row` meets its contract: after x turns the first x signs of the row stand at the front of
-- its part, and LF goes behind the last.
use Rattle.std.proofs.Common.{List, [], ◌∷◌, ◌++◌, ℕ, ◌+◌, ◌*◌, ◌<◌, ◌≡◌, ◌∙◌, get_or, length, refl, sym, ap, arith}
use Rattle.packing.specs.Packing.{pieces}
use Rattle.packing.specs.PackingLaws.{pieces_more}
use Rattle.packing.proofs.Filling.{Filled, filled_none, filled_as, filled_all, filled_byte}
use Rattle.chart.specs.Drawing.{sign_of, sign_at, row_of}
use Rattle.chart.proofs.put_row.Goals as goal

-- One sign more.
next : (s : List ℕ) (from x v : ℕ) → v ≡ sign_of (get_or s (from + x) 0) → pieces x (sign_at s from) ++ v ∷ [] ≡ pieces (x + 1) (sign_at s from)
unfolding sign_at
next s from x v e = rw e (sym (pieces_more x (sign_at s from)))

pub loop-x-init : goal.loop-x-init
unfolding pieces
loop-x-init c = filled_none _

pub loop-x-preserved : goal.loop-x-preserved
loop-x-preserved c =
    let a = c.args in
    let l = c.loop-x in
    let room : l.x < length a.out.now = omega (arith, c.requires.room) in
    let put = filled_byte (pieces l.x (sign_at a.s.cells.now (a.y * a.s.map.w))) l.x a.out.now l.out l.invariant c.sign.result room in
    filled_as _ _ _ _ a.out.now _ put (next a.s.cells.now (a.y * a.s.map.w) l.x c.sign.result (c.sign.ensures ∙ ap sign_of c.at.ensures)) refl

-- All signs stand there once the loop is left.
pub returns : goal.returns
unfolding row_of
returns c =
    let a = c.args in
    let l = c.loop-x in
    let all : l.x ≡ a.s.map.w = omega arith in
    let signs : Filled (pieces a.s.map.w (sign_at a.s.cells.now (a.y * a.s.map.w))) a.s.map.w a.out.now l.out =
    filled_as _ _ _ _ a.out.now l.out l.invariant (ap (λ (n : ℕ). pieces n (sign_at a.s.cells.now (a.y * a.s.map.w))) all) all
    in
    let ended = filled_byte _ a.s.map.w a.out.now _ signs 10 (omega (arith, c.requires.room)) in
    filled_all _ (a.s.map.w + 1) a.out.now _ ended (sym c.requires.room)
