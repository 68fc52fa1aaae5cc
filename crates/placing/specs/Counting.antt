-- The counts over a map, row by row and crossing by crossing: s marks the closed crossings, g those
-- with a shortest drive to the depot (dx, dy), and four has the depot's distances, east, south,
-- west, north.
use Rattle.std.specs.Prelude.{Bool, ◌&&◌, List, ℕ, ltb, eqb, get_or}
use Rattle.field.specs.declared.Placing.{Placing}
use Rattle.field.specs.Map.{at}
use Rattle.field.specs.Workings.Looking.{axis_of}
use Rattle.field.specs.Workings.Placing.{adds, total_to}

-- What (x, y) adds; level is the row's test.
unfoldable pub adds_at : List ℕ → List ℕ → ℕ → Bool → ℕ → ℕ → ℕ → ℕ → ℕ → Placing
adds_at s g w level east west dx y x = adds (eqb (at s w x y) 0) (level && axis_of east west dx x) (ltb 0 (at g w x y))

-- What the first n crossings of row y come to.
abbrev pub row_of : List ℕ → List ℕ → ℕ → Bool → ℕ → ℕ → ℕ → ℕ → ℕ → Placing
row_of s g w level east west dx y n = total_to n (adds_at s g w level east west dx y)

-- What row y comes to, from the depot's distances; and the first n rows.
unfoldable pub row_at : List ℕ → List ℕ → ℕ → List ℕ → ℕ → ℕ → ℕ → Placing
row_at s g w four dx dy y = row_of s g w (axis_of (get_or four 3 0) (get_or four 1 0) dy y) (get_or four 0 0) (get_or four 2 0) dx y w

abbrev pub count_of : List ℕ → List ℕ → ℕ → List ℕ → ℕ → ℕ → ℕ → Placing
count_of s g w four dx dy n = total_to n (row_at s g w four dx dy)
