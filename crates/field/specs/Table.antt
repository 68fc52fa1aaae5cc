-- Document 01's settled examples 1 to 11 as one table of rows, and what it means that a row holds,
-- said with the meanings. Only `picture` is drawn by two workings, `sheet` and `rock_of`, which a
-- reader must believe here too. "Map 8 by 8 unless said. Those with * are the proved set." That
-- every row holds is proved in Settled.
use Rattle.std.specs.Prelude.{◌≡◌, cond, List, [], ◌∷◌, ◌↔◌, ℕ, suc, ◌+◌, length}
use Rattle.field.specs.declared.Marker.{Marker}
use Rattle.field.specs.Map.{On, tallest}
use Rattle.field.specs.Labels.{Rock, RockOn, Closed, Open, Shut, LabelSheet, Count}
use Rattle.field.specs.Groups.{Linked, Groups}
use Rattle.field.specs.Distances.{Way, Clear, Distances, Assured}
use Rattle.field.specs.Hops.{HopAnswer, Answers}
use Rattle.field.specs.Drives.{ShortestDrive, HasDrive, InRegion}
use Rattle.field.specs.Chooser.{Driven}
use Rattle.field.specs.Geometry.Shapes.{Within}
use Rattle.field.specs.Workings.Sheet.{sheet}
use Rattle.field.specs.Workings.Stamping.{rock_of}

-- "Map 8 by 8 unless said."
abbrev pub wide : ℕ
wide = 8

abbrev pub high : ℕ
high = 8

-- A place on the map, and markers on places, with ids 1, 2, 3 and on: "document 01's examples mean
-- height 65,535 and clearance 0" (document 02, Req 08).
pub record Place : Type 0 where
  pub x : ℕ
  pub y : ℕ

abbrev pub markers_from : ℕ → List Place → List Marker
markers_from k [] = []
markers_from k (p ∷ ps) = record { id = k; x = p.x; y = p.y; height = tallest } ∷ markers_from (suc k) ps

abbrev pub markers_on : List Place → List Marker
markers_on ps = markers_from 1 ps

-- The rocks of a row, and its closed crossings.
abbrev pub RocksOn : List Place → ℕ → ℕ → Type 0
RocksOn ps = Rock 0 (markers_on ps)

abbrev pub ClosedBy : List Place → ℕ → ℕ → Type 0
ClosedBy ps = Closed (RocksOn ps) wide high

-- A label sheet drawn from its rocks and its shut crossings: 1 on the rocks, 2 on the shut ones,
-- and 0 elsewhere.
abbrev pub picture : List Place → List Place → List ℕ
picture rocks shut =
    sheet wide high (λ x y. cond (rock_of 0 (markers_on rocks) x y) 1 (cond (rock_of 0 (markers_on shut) x y) 2 0))

-- Each of the places is shut by the rocks.
abbrev pub EachShut : List Place → List Place → Type 0
EachShut rocks [] = Unit {0}
EachShut rocks (p ∷ ps) = Shut (RocksOn rocks) wide high p.x p.y × EachShut rocks ps

-- One example's claim.
pub data Row : Type 0 where
  -- these rocks, on as many crossings, have these shut crossings and nothing else, and so many
  -- groups and open crossings
  labels : (rocks shut : List Place) (groups opens : ℕ) → Row
  -- the group of (x₀, y₀) is x₀ to x₁ by y₀ to y₁
  group : (rocks : List Place) (x₀ x₁ y₀ y₁ : ℕ) → Row
  -- each distance of each crossing is n
  each_distance : (rocks : List Place) (n : ℕ) → Row
  -- the four distances of a place
  distances : (rocks : List Place) (x y : ℕ) (four : List ℕ) → Row
  -- home (hx, hy) is assured for (x, y), or is not
  assured : (rocks : List Place) (hx hy x y : ℕ) → Row
  not_assured : (rocks : List Place) (hx hy x y : ℕ) → Row
  -- home (hx, hy) is assured for (x, y), and a hop asked there has this answer
  hop : (rocks : List Place) (hx hy x y : ℕ) (answer : HopAnswer) → Row
  -- from s to d: both ends open, and no shortest drive, which is refusal 9; or a shortest drive of
  -- n hops
  refused_9 : (rocks : List Place) (sx sy dx dy : ℕ) → Row
  drive : (rocks : List Place) (sx sy dx dy n : ℕ) → Row
  -- the region from s to d has n crossings; the crossings x₀ to x₁ by y₀ to y₁ are outside it
  region : (rocks : List Place) (sx sy dx dy n : ℕ) → Row
  outside : (rocks : List Place) (sx sy dx dy x₀ x₁ y₀ y₁ : ℕ) → Row
  -- the chooser's drive from s to d in state z, and the state after it
  driven : (rocks : List Place) (sx sy dx dy z : ℕ) (route : List ℕ) (z' : ℕ) → Row

-- What a row claims, in the words of the meanings.
abbrev pub Holds : Row → Type 0
Holds (labels rocks shut groups opens) =
    LabelSheet (RocksOn rocks) wide high (picture rocks shut)
    × EachShut rocks shut
    × Count wide high (RockOn (RocksOn rocks) wide high) (length rocks)
    × Count wide high (Shut (RocksOn rocks) wide high) (length shut)
    × Groups wide high (ClosedBy rocks) groups
    × Count wide high (Open wide high (ClosedBy rocks)) opens
Holds (group rocks x₀ x₁ y₀ y₁) = (a b : ℕ) → Linked (ClosedBy rocks) x₀ y₀ a b ↔ Within x₀ x₁ y₀ y₁ a b
Holds (each_distance rocks n) = (t : Way) (x y : ℕ) → On wide high x y → Clear (ClosedBy rocks) t x y n
Holds (distances rocks x y four) = Distances (ClosedBy rocks) x y four
Holds (assured rocks hx hy x y) = Assured wide high (ClosedBy rocks) hx hy x y
Holds (not_assured rocks hx hy x y) = ¬ Assured wide high (ClosedBy rocks) hx hy x y
Holds (hop rocks hx hy x y answer) =
    Assured wide high (ClosedBy rocks) hx hy x y × Answers wide high (ClosedBy rocks) hx hy x y answer
Holds (refused_9 rocks sx sy dx dy) =
    Open wide high (ClosedBy rocks) sx sy × Open wide high (ClosedBy rocks) dx dy × (¬ HasDrive wide high (ClosedBy rocks) sx sy dx dy)
Holds (drive rocks sx sy dx dy n) =
    (route : List ℕ) × ShortestDrive wide high (ClosedBy rocks) sx sy dx dy route × (length route ≡ n + 1)
Holds (region rocks sx sy dx dy n) = Count wide high (InRegion wide high (ClosedBy rocks) sx sy dx dy) n
Holds (outside rocks sx sy dx dy x₀ x₁ y₀ y₁) =
    (a b : ℕ) → Within x₀ x₁ y₀ y₁ a b → ¬ InRegion wide high (ClosedBy rocks) sx sy dx dy a b
Holds (driven rocks sx sy dx dy z route z') = Driven wide high (ClosedBy rocks) sx sy dx dy sx sy z route z'

-- Every row of a list holds.
pub data EveryRow : List Row → Type 0 where
  none : EveryRow []
  one : {r : Row} {rs : List Row} → Holds r → EveryRow rs → EveryRow (r ∷ rs)

abbrev pub place : ℕ → ℕ → Place
place x y = record { x = x; y = y }

-- "Rocks (3,2), (4,3), (5,2), called R"
abbrev pub R : List Place
R = place 3 2 ∷ place 4 3 ∷ place 5 2 ∷ []

-- The table. Each row has its example's number and sentence above it.
unfoldable pub table : List Row
table =
    -- 1. "No rocks: all 64 open; each distance 255." "example 1 and 7 show the new mark" (Req 07).
    labels [] [] 0 64
    ∷ each_distance [] 65535
    -- 2. "Rocks (1,1), (1,2), (2,1): (2,2) shut, nothing else."
    ∷ labels (place 1 1 ∷ place 1 2 ∷ place 2 1 ∷ []) (place 2 2 ∷ []) 1 60
    -- 3. "Rocks (1,1), (3,1): (2,1) shut."
    ∷ labels (place 1 1 ∷ place 3 1 ∷ []) (place 2 1 ∷ []) 1 61
    -- 4. "Rocks (1,1), (4,1): nothing shut, two groups."
    ∷ labels (place 1 1 ∷ place 4 1 ∷ []) [] 2 62
    -- 5. "Rocks (0,0), (1,1): (1,0) and (0,1) shut."
    ∷ labels (place 0 0 ∷ place 1 1 ∷ []) (place 1 0 ∷ place 0 1 ∷ []) 1 60
    -- 6. "Rocks (3,2), (4,3), (5,2), called R: group 3 to 5 by 2 to 3, with (4,2), (3,3), (5,3)
    -- shut."
    ∷ labels R (place 4 2 ∷ place 3 3 ∷ place 5 3 ∷ []) 1 58
    ∷ group R 3 5 2 3
    -- 7. "R: (0,2) has 3, 255, 255, 255; (4,0) has 255, 255, 255, 2; (4,2) has four zeros." With
    -- the new mark (Req 07), 65,535 for 255.
    ∷ distances R 0 2 (3 ∷ 65535 ∷ 65535 ∷ 65535 ∷ [])
    ∷ distances R 4 0 (65535 ∷ 65535 ∷ 65535 ∷ 2 ∷ [])
    ∷ distances R 4 2 (0 ∷ 0 ∷ 0 ∷ 0 ∷ [])
    -- 8. "R, home (0,2): assured for (2,5)"; with Req 02 "assured for (3,5), still not for (4,5)."
    ∷ assured R 0 2 2 5
    ∷ assured R 0 2 3 5
    ∷ not_assured R 0 2 4 5
    -- 9. "R: (0,2) to (7,2) refused 9; (0,2) to (7,4) has a drive of 9 hops."
    ∷ refused_9 R 0 2 7 2
    ∷ drive R 0 2 7 4 9
    -- 10. "R: region (0,0) to (7,3) has 20 crossings; x 0 to 2 with y 2 or 3 is outside."
    ∷ region R 0 0 7 3 20
    ∷ outside R 0 0 7 3 0 2 2 3
    -- 11. "No rocks, state 0, (0,0) to (2,1): numbers 0, 1, 2, 10"; with Req 13 "its end state
    -- becomes D1CCF6E9."
    ∷ driven [] 0 0 2 1 0 (0 ∷ 1 ∷ 2 ∷ 10 ∷ []) 0xd1ccf6e9
    ∷ []
