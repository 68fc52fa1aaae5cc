-- Morning sheets (request 09), on a map 4 by 3: which are taken over which rocks, and hops by those
-- that are. That every row holds is proved in MorningSettled.
use Rattle.std.specs.Prelude.{Bool, true, false, List, [], ◌∷◌, ◌++◌, ℕ}
use Rattle.field.specs.Distances.{Assured}
use Rattle.field.specs.Hops.{HopAnswer, there, one, two, Answers}
use Rattle.field.specs.Morning.{ShownClosed, SheetTaken}
use Rattle.field.specs.Table.{Place, place, RocksOn}
use Rattle.field.specs.LinesTable.{Told}

abbrev pub wide : ℕ
wide = 4

abbrev pub high : ℕ
high = 3

-- A sheet as the map is drawn, the north row first; by number the south row comes first.
abbrev pub line : ℕ → ℕ → ℕ → ℕ → List ℕ
line a b c d = a ∷ b ∷ c ∷ d ∷ []

abbrev pub drawn : List ℕ → List ℕ → List ℕ → List ℕ
drawn north middle south = south ++ (middle ++ north)

pub data Row : Type 0 where
  -- with these rocks the sheet is taken, or is not
  sheet : (rocks : List Place) (north middle south : List ℕ) (taken : Bool) → Row
  -- it is taken, by it home is assured for the place, or is not
  assured : (rocks : List Place) (north middle south : List ℕ) (home cart : Place) (said : Bool) → Row
  -- it is taken, by it home is assured for the place, and a hop asked there has this answer
  hop : (rocks : List Place) (north middle south : List ℕ) (home cart : Place) (answer : HopAnswer) → Row

abbrev pub Holds : Row → Type 0
Holds (sheet rocks north middle south taken) = Told (SheetTaken (RocksOn rocks) wide high (drawn north middle south)) taken
Holds (assured rocks north middle south home cart said) =
    SheetTaken (RocksOn rocks) wide high (drawn north middle south)
    × Told (Assured wide high (ShownClosed wide high (drawn north middle south)) home.x home.y cart.x cart.y) said
Holds (hop rocks north middle south home cart answer) =
    SheetTaken (RocksOn rocks) wide high (drawn north middle south)
    × Assured wide high (ShownClosed wide high (drawn north middle south)) home.x home.y cart.x cart.y
    × Answers wide high (ShownClosed wide high (drawn north middle south)) home.x home.y cart.x cart.y answer

-- The rocks of the labelling program's example, (2,2) and (1,1).
abbrev pub two_rocks : List Place
two_rocks = place 2 2 ∷ place 1 1 ∷ []

-- The table. Above each row stands what it fixes.
unfoldable pub table : List Row
table =
    -- "The labelling is one such sheet": (1,2) and (2,1) are shut.
    sheet two_rocks (line 0 2 1 0) (line 0 1 2 0) (line 0 0 0 0) true
    -- A rock may be shown as shut and a shut crossing as rock: both are closed.
    ∷ sheet two_rocks (line 0 1 2 0) (line 0 2 1 0) (line 0 0 0 0) true
    -- "one with every crossing closed is another": all rock, all shut, and mixed, with rocks and
    -- without.
    ∷ sheet two_rocks (line 1 1 1 1) (line 1 1 1 1) (line 1 1 1 1) true
    ∷ sheet [] (line 2 2 2 2) (line 2 2 2 2) (line 2 2 2 2) true
    ∷ sheet [] (line 1 2 1 2) (line 2 1 2 1) (line 1 2 1 2) true
    -- Zeros without rocks; and a rock shown open.
    ∷ sheet [] (line 0 0 0 0) (line 0 0 0 0) (line 0 0 0 0) true
    ∷ sheet (place 3 0 ∷ []) (line 0 0 0 0) (line 0 0 0 0) (line 0 0 0 0) false
    -- Two rocks, of which one is shown.
    ∷ sheet (place 0 0 ∷ place 3 2 ∷ []) (line 0 0 0 0) (line 0 0 0 0) (line 1 0 0 0) false
    -- An old sheet with rocks that are gone: it may shut more than the rocks of today do.
    ∷ sheet [] (line 0 2 1 0) (line 0 1 2 0) (line 0 0 0 0) true
    -- A byte 3, and a byte 255, on a crossing with no rock and on one with a rock.
    ∷ sheet [] (line 0 0 0 0) (line 0 0 0 0) (line 0 0 0 3) false
    ∷ sheet (place 0 2 ∷ []) (line 255 0 0 0) (line 0 0 0 0) (line 0 0 0 0) false
    -- An open crossing with two neighbours shown closed: at a corner, at an edge, in the middle.
    ∷ sheet [] (line 0 0 0 0) (line 1 0 0 0) (line 0 1 0 0) false
    ∷ sheet [] (line 0 0 0 0) (line 0 0 0 0) (line 0 1 0 2) false
    ∷ sheet [] (line 0 0 0 0) (line 0 2 0 2) (line 0 0 0 0) false
    -- With three and with four of them.
    ∷ sheet [] (line 0 0 0 0) (line 0 0 0 1) (line 0 1 0 1) false
    ∷ sheet [] (line 0 0 2 0) (line 0 2 0 2) (line 0 0 2 0) false
    -- One neighbour is no fault, nor are the diagonals, nor the next row's west end beside a row's
    -- east end.
    ∷ sheet [] (line 0 0 0 0) (line 0 1 0 0) (line 0 0 0 0) true
    ∷ sheet [] (line 0 0 0 0) (line 0 0 0 1) (line 1 0 0 0) true
    -- Hops: on an open sheet both; by a sheet that shows (2,2) closed, both from (2,0) and the
    -- east-west one alone from (2,1); by the labelling, beside the rocks; and at home.
    ∷ hop [] (line 0 0 0 0) (line 0 0 0 0) (line 0 0 0 0) (place 3 2) (place 1 1) (two 2 1 1 2)
    ∷ hop [] (line 0 0 2 0) (line 0 0 0 0) (line 0 0 0 0) (place 3 2) (place 2 0) (two 3 0 2 1)
    ∷ hop [] (line 0 0 2 0) (line 0 0 0 0) (line 0 0 0 0) (place 3 2) (place 2 1) (one 3 1)
    ∷ hop two_rocks (line 0 2 1 0) (line 0 1 2 0) (line 0 0 0 0) (place 0 0) (place 3 1) (one 3 0)
    ∷ hop two_rocks (line 0 2 1 0) (line 0 1 2 0) (line 0 0 0 0) (place 0 0) (place 0 0) there
    -- "with assurance read from that sheet": by the old sheet home (0,1) is not assured for (3,0),
    -- by a fresh one it is.
    ∷ assured [] (line 0 2 1 0) (line 0 1 2 0) (line 0 0 0 0) (place 0 1) (place 3 0) false
    ∷ assured [] (line 0 0 0 0) (line 0 0 0 0) (line 0 0 0 0) (place 0 1) (place 3 0) true
    ∷ []
