-- Stones of different heights under carts of different clearance (document 02, request 08): what is
-- a rock, and what is shut, for which cart. The values come from the document's sentences. That
-- every row holds is proved in StonesSettled.
use Rattle.std.specs.Prelude.{List, [], ◌∷◌, ℕ, suc}
use Rattle.field.specs.declared.Marker.{Marker}
use Rattle.field.specs.Labels.{Rock, Closed, LabelSheet}
use Rattle.field.specs.Groups.{Groups}
use Rattle.field.specs.Table.{Place, place, wide, high, picture}

-- A stone of this height at a place, and the markers of stones, with ids 1, 2, 3 and on.
pub record Stone : Type 0 where
  pub x : ℕ
  pub y : ℕ
  pub height : ℕ

abbrev pub stone : ℕ → ℕ → ℕ → Stone
stone x y height = record { x = x; y = y; height = height }

abbrev pub stones_from : ℕ → List Stone → List Marker
stones_from k [] = []
stones_from k (s ∷ ss) = record { id = k; x = s.x; y = s.y; height = s.height } ∷ stones_from (suc k) ss

-- On the map of the settled examples with these stones, a cart of this clearance has these rocks,
-- these shut crossings and nothing else closed, and so many groups.
pub record Row : Type 0 where
  pub stones : List Stone
  pub clearance : ℕ
  pub rocks : List Place
  pub shut : List Place
  pub groups : ℕ

abbrev pub RocksFor : Row → ℕ → ℕ → Type 0
RocksFor r = Rock r.clearance (stones_from 1 r.stones)

abbrev pub Holds : Row → Type 0
Holds r =
    LabelSheet (RocksFor r) wide high (picture r.rocks r.shut) × Groups wide high (Closed (RocksFor r) wide high) r.groups

abbrev pub row : List Stone → ℕ → List Place → List Place → ℕ → Row
row stones clearance rocks shut groups =
    record { stones = stones; clearance = clearance; rocks = rocks; shut = shut; groups = groups }

-- Three crossings in a row, the middle one low; four, the two in the middle low; and two stones on
-- one crossing.
abbrev pub three : List Stone
three = stone 1 1 9 ∷ stone 2 1 1 ∷ stone 3 1 9 ∷ []

abbrev pub four : List Stone
four = stone 1 1 9 ∷ stone 2 1 1 ∷ stone 3 1 1 ∷ stone 4 1 9 ∷ []

abbrev pub both : List Stone
both = stone 4 4 10 ∷ stone 4 4 30 ∷ []

-- The table. Above each row stands what it fixes.
unfoldable pub table : List Row
table =
    -- "exactly if its height is greater than the clearance": one below, equal, one above.
    row (stone 4 4 30 ∷ []) 29 (place 4 4 ∷ []) [] 1
    ∷ row (stone 4 4 30 ∷ []) 30 [] [] 0
    ∷ row (stone 4 4 30 ∷ []) 31 [] [] 0
    -- "a height in centimetres, 0 to 65,535": the lowest stops no cart, and the highest every cart
    -- but one.
    ∷ row (stone 4 4 0 ∷ stone 6 6 1 ∷ []) 0 (place 6 6 ∷ []) [] 1
    ∷ row (stone 4 4 65535 ∷ []) 65534 (place 4 4 ∷ []) [] 1
    -- "A clearance of 65,535 opens the whole map."
    ∷ row (stone 3 2 65535 ∷ stone 4 3 65535 ∷ stone 5 2 65535 ∷ []) 65535 [] [] 0
    -- Two markers on one crossing: the higher decides, first or last; and once it is cleared, the
    -- other.
    ∷ row both 20 (place 4 4 ∷ []) [] 1
    ∷ row (stone 4 4 30 ∷ stone 4 4 10 ∷ []) 20 (place 4 4 ∷ []) [] 1
    ∷ row both 30 [] [] 0
    ∷ row (stone 4 4 10 ∷ []) 20 [] [] 0
    ∷ row (stone 4 4 10 ∷ []) 9 (place 4 4 ∷ []) [] 1
    -- More clearance closes nothing new, but a rock may become a shut crossing: so more crossings
    -- may be shut.
    ∷ row three 0 (place 1 1 ∷ place 2 1 ∷ place 3 1 ∷ []) [] 1
    ∷ row three 5 (place 1 1 ∷ place 3 1 ∷ []) (place 2 1 ∷ []) 1
    ∷ row three 9 [] [] 0
    -- And one group may fall into two.
    ∷ row four 0 (place 1 1 ∷ place 2 1 ∷ place 3 1 ∷ place 4 1 ∷ []) [] 1
    ∷ row four 5 (place 1 1 ∷ place 4 1 ∷ []) [] 2
    -- What a low stone shuts is open again for a cart that passes over it.
    ∷ row (stone 0 0 40 ∷ stone 1 1 15 ∷ []) 14 (place 0 0 ∷ place 1 1 ∷ []) (place 1 0 ∷ place 0 1 ∷ []) 1
    ∷ row (stone 0 0 40 ∷ stone 1 1 15 ∷ []) 15 (place 0 0 ∷ []) [] 1
    ∷ []
