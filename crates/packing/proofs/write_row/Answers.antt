-- `write_row` meets its contract: after k turns the first k bytes of the row stand at the front of
-- its part.
use Rattle.std.proofs.Common.{◌≡◌, refl, ◌∙◌, ap, sym, ℕ, ◌+◌, ◌*◌, ◌<◌, List, [], ◌∷◌, arith, length, take}
use Rattle.std.proofs.Math.Seq.{take-length}
use Rattle.std.proofs.lemmas.Grind.{take-set_at}
use Rattle.mapfile.specs.Raster.{row_bytes}
use Rattle.packing.specs.Packing.{byte_of, pieces, row_of}
use Rattle.packing.specs.PackingLaws.{pieces_more}
use Rattle.packing.proofs.write_row.Goals as goal

pub loop-k-init : goal.loop-k-init
unfolding pieces
loop-k-init c = refl

pub overflow_mul-k : goal.overflow_mul-k
unfolding row_bytes
overflow_mul-k c = omega arith

pub pack-requires : goal.pack-requires
unfolding row_bytes
pack-requires c = record { whole = c.requires.whole; column = omega arith }

pub loop-k-preserved : goal.loop-k-preserved
loop-k-preserved c =
    let l = c.loop-k in
    let f : ℕ → List ℕ = λ i. byte_of c.args.s.now (c.args.y * c.args.w) c.args.w (i * 8) ∷ [] in
    let k : l.k < length l.out = omega arith in
    rw (pieces_more l.k f, c.pack.ensures, take-set_at l.out l.k (l.k + 1) _ refl k, l.invariant) refl

pub returns : goal.returns
unfolding row_of
returns c =
    let l = c.loop-k in
    let f : ℕ → List ℕ = λ i. byte_of c.args.s.now (c.args.y * c.args.w) c.args.w (i * 8) ∷ [] in
    let all : l.k ≡ length l.out = omega arith in
    let bytes : l.k ≡ row_bytes c.args.w = omega arith in
    sym (ap (λ (n : ℕ). take n l.out) all ∙ take-length l.out) ∙ l.invariant ∙ ap (λ (n : ℕ). pieces n f) bytes
