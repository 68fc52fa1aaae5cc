-- `write_row` meets its contract: after k turns the first k bytes of the row stand at the front of
-- its part.
use Rattle.std.proofs.Common.{◌≡◌, ◌*◌, [], ◌∷◌, take}
use Rattle.packing.specs.Packing.{byte_of, pieces}
use Rattle.packing.proofs.write_row.Given as goal

abbrev pub invariant-loop-k : goal.invariant-loop-k
invariant-loop-k l = take l.k l.out ≡ pieces l.k (λ i. byte_of l.s (l.y * l.w) l.w (i * 8) ∷ [])
