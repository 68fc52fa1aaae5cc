-- The crossing-lines test beside assurance, and the drive that the test yields (request 06).
-- "Either test may say yes where the other says no": rows for each of the four. That every row
-- holds is proved in LinesSettled.
use Rattle.std.specs.Prelude.{Bool, true, false, List, [], ◌∷◌, ℕ}
use Rattle.field.specs.Labels.{Open}
use Rattle.field.specs.Distances.{Assured}
use Rattle.field.specs.CrossingLines.{LinesAnswer, says_no, says_yes, Says, Lines, DrivenBy}
use Rattle.field.specs.Table.{Place, place, wide, high, ClosedBy, R}

-- On the map of the settled examples with these rocks, s and d being open.
pub data Row : Type 0 where
  -- the crossing-lines test has this answer, and home s is assured for d, or is not
  tests : (rocks : List Place) (s d : Place) (answer : LinesAnswer) (assured : Bool) → Row
  -- the lines meet here, and the drive by way of this crossing, from state z, is this one, with the
  -- state after it
  joined : (rocks : List Place) (s d : Place) (column row z : ℕ) (route : List ℕ) (z' : ℕ) → Row

-- Yes or no, said of P.
abbrev pub Told : Type 0 → Bool → Type 0
Told P true = P
Told P false = ¬ P

abbrev pub Holds : Row → Type 0
Holds (tests rocks s d answer assured) =
    Open wide high (ClosedBy rocks) s.x s.y
    × Open wide high (ClosedBy rocks) d.x d.y
    × Says wide high (ClosedBy rocks) s.x s.y d.x d.y answer
    × Told (Assured wide high (ClosedBy rocks) s.x s.y d.x d.y) assured
Holds (joined rocks s d column row z route z') =
    Lines wide high (ClosedBy rocks) s.x s.y d.x d.y column row
    × DrivenBy wide high (ClosedBy rocks) s.x s.y d.x d.y column row z route z'

-- Four rocks so far apart that nothing is shut, one in each column and each row from (0,0) to
-- (3,3).
abbrev pub steps : List Place
steps = place 1 0 ∷ place 3 1 ∷ place 0 2 ∷ place 2 3 ∷ []

-- Rocks that leave columns 1 and 2 and rows 1 and 3 open from (0,0) to (3,3).
abbrev pub inner : List Place
inner = place 0 2 ∷ place 3 0 ∷ []

-- The table. Above each row stands what it fixes.
unfoldable pub table : List Row
table =
    -- Both tests say yes. Every column and row is open: the westmost, and the southmost.
    tests [] (place 0 0) (place 2 1) (says_yes 0 0) true
    -- Assured, and no lines: column 1 is open and no row is.
    ∷ tests (place 0 1 ∷ place 2 0 ∷ []) (place 0 0) (place 2 1) says_no true
    -- A row is open and no column is.
    ∷ tests (place 1 0 ∷ place 0 2 ∷ []) (place 0 0) (place 1 2) says_no true
    -- Lines, column 0 and row 1, and home (0,0) is not assured.
    ∷ tests (place 1 0 ∷ []) (place 0 0) (place 2 1) (says_yes 0 1) false
    -- Neither, though there is a shortest drive: by (0,1), (1,1), (1,2), (2,2) and (3,2).
    ∷ tests steps (place 0 0) (place 3 3) says_no false
    -- The places exchanged have the same lines; home (2,1) is assured.
    ∷ tests (place 1 0 ∷ []) (place 2 1) (place 0 0) (says_yes 0 1) true
    -- Ends included: from a place to itself it is its own column and row, and along one row that
    -- row is the only one.
    ∷ tests R (place 2 2) (place 2 2) (says_yes 2 2) true
    ∷ tests R (place 0 4) (place 7 4) (says_yes 0 4) true
    ∷ tests R (place 0 2) (place 7 2) says_no false
    -- Throughout the rectangle and no further: rocks beside it do not count.
    ∷ tests R (place 0 0) (place 7 1) (says_yes 0 0) true
    -- Round the group of R: north of it, with the westmost column beside it; and south and east of
    -- it, with columns 3 to 5 closed by it.
    ∷ tests R (place 0 2) (place 7 4) (says_yes 0 4) false
    ∷ tests R (place 3 1) (place 7 4) (says_yes 6 1) false
    -- The drive. At (0,0), the meeting crossing, there is nothing to choose; then as in example 11.
    ∷ joined [] (place 0 0) (place 2 1) 0 0 0 (0 ∷ 1 ∷ 2 ∷ 10 ∷ []) 0xd1ccf6e9
    -- "The meeting crossing written once": 8 is (0,1). Three draws are thrown away (request 13).
    ∷ joined (place 1 0 ∷ []) (place 0 0) (place 2 1) 0 1 7 (0 ∷ 8 ∷ 9 ∷ 10 ∷ []) 0x9ccc40fc
    -- "with the state handed on": two draws before the meeting crossing (1,1), east and one thrown
    -- away, and four after it, north, north and two thrown away. Drawn from state 0 again, the
    -- second part would go east twice.
    ∷ joined inner (place 0 0) (place 3 3) 1 1 0 (0 ∷ 1 ∷ 9 ∷ 17 ∷ 25 ∷ 26 ∷ 27 ∷ []) 0x9f2ec686
    ∷ []
