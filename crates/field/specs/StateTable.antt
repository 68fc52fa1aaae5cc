-- The state after a drive (request 13), in rows of the first table's kind, so that draws that are
-- thrown away are seen in it. A drive of no hops is in the second table. That every row holds is
-- proved in StateSettled.
use Rattle.std.specs.Prelude.{List, [], ◌∷◌}
use Rattle.field.specs.Table.{Row, driven, R}

-- The table. Above each row stands what it fixes.
unfoldable pub state_table : List Row
state_table =
    -- A drive that passes a rock. Nine hops: the first two have two candidates, the seven from 18
    -- on have one.
    driven R 0 2 7 4 0 (16 ∷ 17 ∷ 18 ∷ 26 ∷ 34 ∷ 35 ∷ 36 ∷ 37 ∷ 38 ∷ 39 ∷ []) 0x81fdbee7
    -- "Two carts with equal start states drift apart as soon as one passes a rock": this one passes
    -- none, has two candidates at 18 and 26 too, and the same state after it.
    ∷ driven [] 0 2 7 4 0 (16 ∷ 17 ∷ 18 ∷ 26 ∷ 34 ∷ 35 ∷ 36 ∷ 37 ∷ 38 ∷ 39 ∷ []) 0x81fdbee7
    -- A choice after draws that were thrown away is by a draw of its own: at 34 the sixth, whose
    -- top bit is 1. That of the first is 0, and that of the fifth.
    ∷ driven R 7 4 0 2 0 (39 ∷ 38 ∷ 37 ∷ 36 ∷ 35 ∷ 34 ∷ 26 ∷ 25 ∷ 17 ∷ 16 ∷ []) 0x81fdbee7
    -- Along a row every draw is thrown away. Three hops, as in example 11.
    ∷ driven [] 0 4 3 4 0 (32 ∷ 33 ∷ 34 ∷ 35 ∷ []) 0xd1ccf6e9
    ∷ []
