-- Small marker lists as one table of rows, and what it means that a row holds, said with the
-- meanings. That every row holds is proved in Settled.
use Rattle.std.specs.Prelude.{◌≡◌, List, [], ◌∷◌, ◌↔◌, ℕ, ◌+◌, ◌-◌}
use Rattle.field.specs.declared.Marker.{Marker}
use Rattle.field.specs.Labels.{blank}
use Rattle.field.specs.Table.{wide, high}
use Rattle.markers.specs.List.{WellFormed, Entered, Cleared}
use Rattle.markers.specs.Promise.{marker}

-- One row's claim, on a map 8 by 8.
pub data Row : Type 0 where
  -- so many of this list are in use, and it is well formed; or it is not
  formed : (list : List Marker) (count : ℕ) → Row
  not_formed : (list : List Marker) (count : ℕ) → Row
  -- entering m, or clearing an id, makes of this list that one and no other
  enters : (list : List Marker) (count : ℕ) (m : Marker) (after : List Marker) → Row
  clears : (list : List Marker) (count id : ℕ) (after : List Marker) → Row
  -- n may be in use, and no more
  most : (n : ℕ) → Row

-- What a row claims, in the words of the meanings.
abbrev pub Holds : Row → Type 0
Holds (formed list count) = WellFormed wide high list count
Holds (not_formed list count) = ¬ WellFormed wide high list count
Holds (enters list count m after) =
    WellFormed wide high list count
    × ((l : List Marker) → Entered list count m l ↔ l ≡ after)
    × WellFormed wide high after (count + 1)
Holds (clears list count id after) =
    WellFormed wide high list count
    × ((l : List Marker) → Cleared list count id l ↔ l ≡ after)
    × WellFormed wide high after (count - 1)
Holds (most n) =
    ((list : List Marker) × WellFormed wide high list n) × ((list : List Marker) → ¬ WellFormed wide high list (n + 1))

-- Markers that the rows are about. The junk stands past the count: it would not be well formed
-- there, and no row looks at it.
abbrev pub m₁ : Marker
m₁ = marker 1 0 0 90

abbrev pub m₃ : Marker
m₃ = marker 3 2 5 30

abbrev pub m₅ : Marker
m₅ = marker 5 7 7 0

abbrev pub junk : Marker
junk = marker 2 99 8 70

-- The table. Each row has above it the sentence, or what of it, that it shows.
unfoldable pub table : List Row
table =
    -- "Entering puts the marker at its place by id and moves the later ones up by one": first,
    -- between two, last, alone.
    enters (m₃ ∷ m₅ ∷ junk ∷ junk ∷ []) 2 m₁ (m₁ ∷ m₃ ∷ m₅ ∷ junk ∷ [])
    ∷ enters (m₁ ∷ m₅ ∷ junk ∷ junk ∷ []) 2 m₃ (m₁ ∷ m₃ ∷ m₅ ∷ junk ∷ [])
    ∷ enters (m₁ ∷ m₃ ∷ junk ∷ junk ∷ []) 2 m₅ (m₁ ∷ m₃ ∷ m₅ ∷ junk ∷ [])
    ∷ enters (junk ∷ junk ∷ []) 0 m₃ (m₃ ∷ junk ∷ [])
    -- into the last slot that is lent
    ∷ enters (m₁ ∷ m₅ ∷ junk ∷ []) 2 m₃ (m₁ ∷ m₃ ∷ m₅ ∷ [])
    -- "a sixteen-bit id (1 to 65,535)"
    ∷ enters (m₃ ∷ junk ∷ []) 1 (marker 65535 0 7 8) (m₃ ∷ marker 65535 0 7 8 ∷ [])
    -- "Several markers may stand on one crossing; each is kept."
    ∷ enters (m₃ ∷ m₅ ∷ junk ∷ []) 2 (marker 4 2 5 30) (m₃ ∷ marker 4 2 5 30 ∷ m₅ ∷ [])
    ∷ clears (m₃ ∷ marker 4 2 5 30 ∷ m₅ ∷ []) 3 3 (marker 4 2 5 30 ∷ m₅ ∷ blank ∷ [])
    -- "Add to each marker a height in centimetres, 0 to 65,535" (document 02, Req 08): every height
    -- is entered, the lowest and the highest, and each marker keeps its own where it is moved up or
    -- down, two of different heights on one crossing too. The slot freed is zeros, its height too.
    ∷ enters (m₃ ∷ m₅ ∷ junk ∷ []) 2 (marker 2 2 5 0) (marker 2 2 5 0 ∷ m₃ ∷ m₅ ∷ [])
    ∷ enters (m₃ ∷ m₅ ∷ junk ∷ []) 2 (marker 2 2 5 65535) (marker 2 2 5 65535 ∷ m₃ ∷ m₅ ∷ [])
    ∷ clears (marker 2 2 5 65535 ∷ m₃ ∷ m₅ ∷ []) 3 2 (m₃ ∷ m₅ ∷ blank ∷ [])
    ∷ clears (m₁ ∷ marker 7 7 7 65535 ∷ []) 2 7 (m₁ ∷ marker 0 0 0 0 ∷ [])
    -- "Clearing moves the later ones down and sets the one slot so freed to zeros": the first, one
    -- between two, the last, the only one.
    ∷ clears (m₁ ∷ m₃ ∷ m₅ ∷ junk ∷ []) 3 1 (m₃ ∷ m₅ ∷ blank ∷ junk ∷ [])
    ∷ clears (m₁ ∷ m₃ ∷ m₅ ∷ junk ∷ []) 3 3 (m₁ ∷ m₅ ∷ blank ∷ junk ∷ [])
    ∷ clears (m₁ ∷ m₃ ∷ m₅ ∷ junk ∷ []) 3 5 (m₁ ∷ m₃ ∷ blank ∷ junk ∷ [])
    ∷ clears (m₃ ∷ junk ∷ []) 1 3 (blank ∷ junk ∷ [])
    -- "Freed room is used again."
    ∷ enters (m₁ ∷ m₅ ∷ blank ∷ junk ∷ []) 2 m₃ (m₁ ∷ m₃ ∷ m₅ ∷ junk ∷ [])
    -- "Slots past the count are never read."
    ∷ formed (junk ∷ junk ∷ []) 0
    ∷ formed (m₁ ∷ m₃ ∷ junk ∷ []) 2
    -- Refusal 3: "count over 4,096 or over the list lent, an id 0, ids not rising, or a marker off
    -- the map"; "markers in use to 8,192" (Req 07).
    ∷ most 8192
    ∷ not_formed (m₁ ∷ m₃ ∷ []) 3
    ∷ not_formed (marker 0 0 0 90 ∷ []) 1
    ∷ not_formed (m₁ ∷ m₅ ∷ m₃ ∷ []) 3
    ∷ not_formed (m₃ ∷ marker 3 0 0 90 ∷ []) 2
    ∷ not_formed (m₁ ∷ marker 3 8 5 90 ∷ []) 2
    ∷ not_formed (m₁ ∷ marker 3 2 8 90 ∷ []) 2
    -- And where the only fault is in a marker of no height.
    ∷ not_formed (m₃ ∷ marker 3 0 0 0 ∷ []) 2
    ∷ not_formed (m₁ ∷ marker 3 8 5 0 ∷ []) 2
    ∷ []
