-- Depots and their four numbers (request 05): a row for each kind of crossing, for each corner, and
-- for a closed depot. The numbers are counted by hand from the documents' sentences. That every row
-- holds is proved in DepotSettled.
use Rattle.std.specs.Prelude.{List, [], ◌∷◌, ℕ}
use Rattle.field.specs.declared.Depot.{Depot}
use Rattle.field.specs.declared.Depot.TheVariants.{SouthWest, SouthEast, NorthWest, NorthEast}
use Rattle.field.specs.declared.Placing.{Placing}
use Rattle.field.specs.Labels.{Closed}
use Rattle.field.specs.Depots.{depot_x, depot_y, four, HowPlaced}
use Rattle.field.specs.Table.{Place, place, RocksOn}

-- On a map of this size with these rocks: a corner as depot, and its four numbers.
pub record Row : Type 0 where
  pub w : ℕ
  pub h : ℕ
  pub rocks : List Place
  pub depot : Depot
  pub numbers : Placing

abbrev pub Holds : Row → Type 0
Holds r =
    HowPlaced r.w r.h (Closed (RocksOn r.rocks) r.w r.h) (depot_x r.depot r.w) (depot_y r.depot r.h) r.numbers

abbrev pub row : ℕ → ℕ → List Place → Depot → ℕ → ℕ → ℕ → ℕ → Row
row w h rocks depot o a d s =
    record { w = w; h = h; rocks = rocks; depot = depot; numbers = four o a d s }

-- The table. A row has the open crossings, those for which the depot is assured, those not assured
-- that have a shortest drive, and those with none.
unfoldable pub table : List Row
table =
    -- one crossing: the depot is assured for itself; and a rock on it
    row 1 1 [] NorthEast 1 1 0 0
    ∷ row 1 1 (place 0 0 ∷ []) NorthEast 0 0 0 0
    -- a rock two hops east of the southwest corner: the rows past it have a drive round it, and its
    -- own row has none
    ∷ row 4 3 (place 2 0 ∷ []) SouthWest 11 8 2 1
    -- from the other side it is one hop away; and from the north it stands in no depot's row or
    -- column
    ∷ row 4 3 (place 2 0 ∷ []) SouthEast 11 5 4 2
    ∷ row 4 3 (place 2 0 ∷ []) NorthWest 11 11 0 0
    ∷ row 4 3 (place 2 0 ∷ []) NorthEast 11 11 0 0
    -- the same along a column: southeast and northwest are two corners
    ∷ row 3 4 (place 0 1 ∷ []) SouthWest 11 5 4 2
    ∷ row 3 4 (place 0 1 ∷ []) SouthEast 11 11 0 0
    ∷ row 3 4 (place 0 1 ∷ []) NorthWest 11 8 2 1
    -- two rocks that shut two more: behind them (4,1) is stranded too, off the depot's row and with
    -- an open neighbour nearer the depot
    ∷ row 5 3 (place 2 0 ∷ place 3 1 ∷ []) SouthWest 11 7 2 2
    -- a closed depot: on a rock, and on a shut crossing, whose map has five open crossings
    ∷ row 3 3 (place 2 0 ∷ []) SouthEast 0 0 0 0
    ∷ row 3 3 (place 1 0 ∷ place 0 1 ∷ []) SouthWest 0 0 0 0
    ∷ row 3 3 (place 1 0 ∷ place 0 1 ∷ []) NorthEast 5 5 0 0
    ∷ []
