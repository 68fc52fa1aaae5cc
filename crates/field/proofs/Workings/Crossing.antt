-- Workings: the crossing lines of two places and the drive by way of where they meet (Req 06),
-- read off a sheet s of the closed crossings.
use Rattle.std.specs.Prelude.{Bool, cond, ◌&&◌, ◌||◌, List, ◌++◌, ℕ, zero, suc, min, max, ltb, leb, drop}
use Rattle.field.specs.Map.{gap, dist}
use Rattle.field.specs.CrossingLines.{LinesAnswer, says_no, says_yes}
use Rattle.field.proofs.Workings.Corners.{every}
use Rattle.field.specs.Workings.Looking.{open_of}
use Rattle.field.specs.Workings.Reaching.{Made, region_of, drive_of}

-- Every number between a and b, both included, passes f.
unfoldable pub every_between : ℕ → ℕ → (ℕ → Bool) → Bool
every_between a b f = every (suc (max a b)) (λ v. ltb v (min a b) || f v)

-- The first of the n numbers from k on that passes f, or the number after them.
unfoldable pub first_from : ℕ → ℕ → (ℕ → Bool) → ℕ
first_from zero k f = k
first_from (suc n) k f = let r = first_from n (suc k) f in cond (f k) k r

-- The first between a and b.
unfoldable pub first_between : ℕ → ℕ → (ℕ → Bool) → ℕ
first_between a b f = first_from (suc (gap a b)) (min a b) f

-- The westmost column that is open between the rows of both places, and the southmost row that is
-- open between their columns.
unfoldable pub column_of : List ℕ → ℕ → ℕ → ℕ → ℕ → ℕ → ℕ → ℕ
column_of s w h sx sy dx dy = first_between sx dx (λ x. every_between sy dy (open_of s w h x))

unfoldable pub row_of : List ℕ → ℕ → ℕ → ℕ → ℕ → ℕ → ℕ → ℕ
row_of s w h sx sy dx dy = first_between sy dy (λ y. every_between sx dx (λ x. open_of s w h x y))

-- The test's answer.
unfoldable pub lines_of : List ℕ → ℕ → ℕ → ℕ → ℕ → ℕ → ℕ → LinesAnswer
lines_of s w h sx sy dx dy =
    cond (leb (column_of s w h sx sy dx dy) (max sx dx) && leb (row_of s w h sx sy dx dy) (max sy dy))
    (says_yes (column_of s w h sx sy dx dy) (row_of s w h sx sy dx dy)) says_no

-- The drive from (sx, sy) to (dx, dy) by way of (x, y), from state z.
unfoldable pub driven_by_of : List ℕ → ℕ → ℕ → ℕ → ℕ → ℕ → ℕ → ℕ → ℕ → ℕ → Made
driven_by_of s w h sx sy dx dy x y z =
    let a = drive_of (region_of s w h sx sy x y) w h x y (dist sx sy x y) sx sy z in
    let b = drive_of (region_of s w h x y dx dy) w h dx dy (dist x y dx dy) x y a.state in
    record { route = a.route ++ drop 1 b.route; state = b.state }
