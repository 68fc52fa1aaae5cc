-- Sweeps and their number (request 10), counted by hand from the definition: maps that take none,
-- the diagonal, fronts that go on alone or meet, and maps that take as many sweeps as they have
-- shut crossings. That every row holds is proved in SweepSettled.
use Rattle.std.specs.Prelude.{List, [], ◌∷◌, ℕ}
use Rattle.field.specs.Labels.{Shut, Count}
use Rattle.field.specs.Sweeps.{Sweeps}
use Rattle.field.specs.Table.{Place, place, RocksOn}

-- On a map of this size with these rocks: the number of sweeps, and of shut crossings.
pub record Row : Type 0 where
  pub w : ℕ
  pub h : ℕ
  pub rocks : List Place
  pub sweeps : ℕ
  pub shut : ℕ

abbrev pub Holds : Row → Type 0
Holds r =
    Sweeps (RocksOn r.rocks) r.w r.h r.sweeps
    × Count r.w r.h (Shut (RocksOn r.rocks) r.w r.h) r.shut

abbrev pub row : ℕ → ℕ → List Place → ℕ → ℕ → Row
row w h rocks sweeps shut = record { w = w; h = h; rocks = rocks; sweeps = sweeps; shut = shut }

-- The table. A row has the number of sweeps and of shut crossings.
unfoldable pub table : List Row
table =
    -- "With nothing shut it is 0": no rocks, one rock, a full map, and a lattice with gaps of two
    row 3 3 [] 0 0
    ∷ row 3 3 (place 1 1 ∷ []) 0 0
    ∷ row 2 2 (place 0 0 ∷ place 1 0 ∷ place 0 1 ∷ place 1 1 ∷ []) 0 0
    ∷ row 4 4 (place 0 0 ∷ place 3 0 ∷ place 0 3 ∷ place 3 3 ∷ []) 0 0
    -- one sweep for all that the rocks alone close: a gap of one, and the settled examples' R
    ∷ row 3 1 (place 0 0 ∷ place 2 0 ∷ []) 1 1
    ∷ row 3 2 (place 0 0 ∷ place 1 1 ∷ place 2 0 ∷ []) 1 3
    -- the diagonal: each sweep closes the crossings one further from it, on both sides
    ∷ row 4 4 (place 0 0 ∷ place 1 1 ∷ place 2 2 ∷ place 3 3 ∷ []) 3 12
    -- a front along a row of rocks, one crossing a sweep: "all crossings are judged together on the
    -- state before it", though by number each comes right after the one that closes it; as many
    -- sweeps as shut crossings
    ∷ row 4 2 (place 0 0 ∷ place 1 0 ∷ place 2 0 ∷ place 3 0 ∷ place 0 1 ∷ []) 3 3
    -- the same against the order of numbers
    ∷ row 4 2 (place 0 1 ∷ place 1 1 ∷ place 2 1 ∷ place 3 1 ∷ place 3 0 ∷ []) 3 3
    -- two fronts that meet, and close the last crossing together
    ∷ row 5 2 (place 0 0 ∷ place 1 0 ∷ place 2 0 ∷ place 3 0 ∷ place 4 0 ∷ place 0 1 ∷ place 4 1 ∷ []) 2 3
    -- a front that turns: a gap of one closes, then a corner, then the crossing north of it; the
    -- last column stays open
    ∷ row 3 3 (place 0 0 ∷ place 1 0 ∷ place 0 2 ∷ []) 3 3
    ∷ []
