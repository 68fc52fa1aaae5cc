-- A second table: claims that follow from document 01 and that none of its examples makes. Each row
-- fixes something that the examples leave open, so that a definition and its working, or the code,
-- could be wrong alike and the first table would still hold. The values come from document 01's
-- sentences, and not from the workings. That every row holds is proved in Further.
use Rattle.std.specs.Prelude.{List, [], ◌∷◌}
use Rattle.field.specs.Hops.{there, one, two}
use Rattle.field.specs.Table.{Row, labels, distances, assured, not_assured, hop, refused_9, drive, region, driven, Place, place, R}

-- Rocks that stand one each way from (4,4): 3 hops east, 2 south, 4 west, 1 north.
abbrev pub around : List Place
around = place 7 4 ∷ place 4 2 ∷ place 0 4 ∷ place 4 5 ∷ []

-- The table. Above each row stands what it fixes.
unfoldable pub further_table : List Row
further_table =
    -- Labels. The two closed neighbours may be the north and the south one; example 3 has them east
    -- and west.
    labels (place 1 1 ∷ place 1 3 ∷ []) (place 1 2 ∷ []) 1 61
    -- A shut crossing is a closed neighbour like a rock: (2,0) and (0,2) are shut by shut
    -- crossings. In the examples rocks alone shut.
    ∷ labels (place 0 0 ∷ place 1 1 ∷ place 2 2 ∷ []) (place 1 0 ∷ place 0 1 ∷ place 2 1 ∷ place 1 2 ∷ place 2 0 ∷ place 0 2 ∷ []) 1 55
    -- Rows do not go on into each other: (7,0) has the number between those of the rocks, and they
    -- are not both its neighbours.
    ∷ labels (place 6 0 ∷ place 0 1 ∷ []) [] 2 62
    -- Distances. Each of the four ways by a number of its own, so that none is taken for another:
    -- south and west are no numbers in example 7.
    ∷ distances around 4 4 (3 ∷ 2 ∷ 4 ∷ 1 ∷ [])
    -- Assurance. The north-south axis counts: example 8 has nothing closed on it. North, home (4,0)
    -- has 2.
    ∷ assured R 4 0 7 2
    ∷ not_assured R 4 0 7 3
    -- West of home it is the west distance that counts, and south of home the south one: home (7,2)
    -- has 2 west, home (4,6) has 3 south.
    ∷ assured R 7 2 5 6
    ∷ not_assured R 7 2 4 6
    ∷ assured R 4 6 1 3
    ∷ not_assured R 4 6 1 2
    -- Both are to be open. Home (0,5) has no distance any way: for a rock and for a shut crossing
    -- it is not assured by their being closed alone; nor is a closed home for itself, at offset 0
    -- on each axis.
    ∷ not_assured R 0 5 4 3
    ∷ not_assured R 0 5 3 3
    ∷ not_assured R 4 3 4 3
    -- Hops, of which there is no example. "At home there is none, and the answer is 'there'."
    ∷ hop R 0 2 0 2 there
    -- With two permitted hops the east-west one comes first, homeward to the west and the south,
    -- and to the east and the north.
    ∷ hop R 0 2 2 5 (two 1 5 2 4)
    ∷ hop R 7 7 6 6 (two 7 6 6 7)
    -- On home's row and on home's column there is one.
    ∷ hop R 0 2 2 2 (one 1 2)
    ∷ hop R 0 2 0 5 (one 0 4)
    -- A closed crossing is no permitted hop, shut like (5,3) or a rock like (4,3): the other hop is
    -- left.
    ∷ hop R 0 0 6 3 (one 6 2)
    ∷ hop R 0 0 4 4 (one 3 4)
    -- Drives. Refusal 9 also where the ends share no row and no column; a longer drive around would
    -- not count.
    ∷ refused_9 R 3 1 4 4
    -- "From a crossing to itself it has 0 hops", and it is the region; at d no draw is made.
    ∷ drive R 0 2 0 2 0
    ∷ region R 0 2 0 2 1
    ∷ driven R 0 2 0 2 682 (16 ∷ []) 682
    -- The region of drives to the west and the south: example 10 the other way round.
    ∷ region R 7 3 0 0 20
    -- All crossings of a drive are open, s and d too: with a closed end the region is empty.
    ∷ region R 3 2 0 2 0
    ∷ region R 0 2 3 2 0
    -- The chooser. Top bit 1 takes the north-south candidate, and it is the new state's: that of
    -- 682 is 0, and that of 8018d201 hexadecimal, which is drawn first, 1. The second draw is
    -- thrown away.
    ∷ driven [] 0 0 1 1 682 (0 ∷ 8 ∷ 9 ∷ []) 0x2377036c
    -- The same the other way round: the top bit of 800002aa is 1, and that of 18d201 is 0.
    ∷ driven [] 0 0 1 1 0x800002aa (0 ∷ 1 ∷ 9 ∷ []) 0xa377036c
    -- To the west and the south.
    ∷ driven [] 2 1 0 0 682 (10 ∷ 2 ∷ 1 ∷ 0 ∷ []) 0xca6327db
    -- A candidate is in the region, not only open and nearer: at (1,1) the north neighbour (1,2) is
    -- open, but strands, and it is not taken though the top bit drawn there is 1.
    ∷ driven R 0 0 7 3 58 (0 ∷ 1 ∷ 9 ∷ 10 ∷ 11 ∷ 12 ∷ 13 ∷ 14 ∷ 22 ∷ 23 ∷ 31 ∷ []) 0xe9ef76a4
    ∷ []
