-- Workings: clear distances, assurance and hops, read off a sheet s of the closed crossings.
use Rattle.std.specs.Prelude.{Bool, true, false, cond, ◌&&◌, ◌||◌, List, [], ◌∷◌, ℕ, zero, suc, ◌+◌, ◌-◌, ltb, leb, eqb}
use Rattle.field.specs.Map.{gap, no_distance}
use Rattle.field.specs.Distances.{Way, eastward, southward, westward, northward}
use Rattle.field.specs.Hops.{HopAnswer, there, one, two}
use Rattle.field.specs.Workings.Sheet.{lit, sheet}

-- 1 where the crossing k hops that way from (x, y) is marked, and else 0.
unfoldable pub lit_along : Way → List ℕ → ℕ → ℕ → ℕ → ℕ → ℕ → ℕ
lit_along eastward s w h x y k = lit s w h (x + k) y
lit_along southward s w h x y k = cond (leb k y) (lit s w h x (y - k)) 0
lit_along westward s w h x y k = cond (leb k x) (lit s w h (x - k) y) 0
lit_along northward s w h x y k = lit s w h x (y + k)

-- Of the n hops from the k-th on, the first at which f has a mark, or the mark for none.
unfoldable pub look : ℕ → ℕ → (ℕ → ℕ) → ℕ
look zero k f = no_distance
look (suc n) k f = let r = look n (suc k) f in cond (ltb 0 (f k)) k r

-- The clear distance of (x, y) that way, and all four in order.
unfoldable pub clear_of : Way → List ℕ → ℕ → ℕ → ℕ → ℕ → ℕ
clear_of t s w h x y = let r = look (w + h) 1 (lit_along t s w h x y) in cond (ltb 0 (lit s w h x y)) 0 r

unfoldable pub distances_of : List ℕ → ℕ → ℕ → ℕ → ℕ → List ℕ
distances_of s w h x y =
    clear_of eastward s w h x y ∷ clear_of southward s w h x y ∷ clear_of westward s w h x y ∷ clear_of northward s w h x y ∷ []

-- The distances of the whole map, one way.
unfoldable pub distance_sheet_of : Way → List ℕ → ℕ → ℕ → List ℕ
distance_sheet_of t s w h = sheet w h (clear_of t s w h)

-- One axis of assurance, home at m and the place at p, with home's distances up and down.
unfoldable pub enough_of : ℕ → ℕ → Bool
enough_of offset n = eqb n no_distance || leb offset n

unfoldable pub axis_of : ℕ → ℕ → ℕ → ℕ → Bool
axis_of up down m p = eqb p m || cond (ltb m p) (enough_of (gap m p) up) (enough_of (gap m p) down)

-- (x, y) is on the map and has no mark.
unfoldable pub open_of : List ℕ → ℕ → ℕ → ℕ → ℕ → Bool
open_of s w h x y = ltb x w && (ltb y h && eqb (lit s w h x y) 0)

unfoldable pub assured_of : List ℕ → ℕ → ℕ → ℕ → ℕ → ℕ → ℕ → Bool
assured_of s w h hx hy x y =
    open_of s w h hx hy
    && (open_of s w h x y
    && (axis_of (clear_of eastward s w h hx hy) (clear_of westward s w h hx hy) hx x
    && axis_of (clear_of northward s w h hx hy) (clear_of southward s w h hx hy) hy y))

-- One hop from p to d along an axis.
unfoldable pub hop_to : ℕ → ℕ → ℕ
hop_to p d = cond (ltb p d) (p + 1) (p - 1)

-- Whether the east-west hop homeward is permitted, and the north-south one.
unfoldable pub east_west_of : List ℕ → ℕ → ℕ → ℕ → ℕ → ℕ → Bool
east_west_of s w h hx x y = cond (eqb x hx) false (open_of s w h (hop_to x hx) y)

unfoldable pub north_south_of : List ℕ → ℕ → ℕ → ℕ → ℕ → ℕ → Bool
north_south_of s w h hy x y = cond (eqb y hy) false (open_of s w h x (hop_to y hy))

-- The answer from what is permitted; with no hop permitted it is "there", which at an assured place
-- is so at home alone.
abbrev pub answer_of : Bool → Bool → ℕ → ℕ → ℕ → ℕ → HopAnswer
answer_of true true x y a b = two a y x b
answer_of true false x y a b = one a y
answer_of false true x y a b = one x b
answer_of false false x y a b = there

unfoldable pub hop_of : List ℕ → ℕ → ℕ → ℕ → ℕ → ℕ → ℕ → HopAnswer
hop_of s w h hx hy x y = answer_of (east_west_of s w h hx x y) (north_south_of s w h hy x y) x y (hop_to x hx) (hop_to y hy)
