-- What the passes over the region sheet do, crossing by crossing. A pass starts at one end e of a
-- drive and walks over the rectangle that the two ends span; it leaves a mark at e, and where a
-- neighbour one hop nearer e has one.
use Rattle.std.specs.Prelude.{◌≡◌, Bool, cond, ◌&&◌, ◌||◌, List, ℕ, ◌+◌, eqb, length}
use Rattle.field.specs.Map.{On, at, gap}
use Rattle.field.specs.Workings.Sheet.{bit}
use Rattle.field.specs.Workings.Reaching.{east_west_in, north_south_in}
use Rattle.field.specs.declared.Place.{Place}

-- p lies on the way from a to b along one axis, the ends included.
pub record OnWay (a b p : ℕ) : Type 0 where
  pub direct : gap a p + gap p b ≡ gap a b

-- p is the place on that way that is k hops from a.
pub record Along (a b k p : ℕ) : Type 0 where
  pub way : OnWay a b p
  pub far : gap a p ≡ k

-- The crossings of row y from column ex to column fx, and the rectangle from (ex, ey) to (fx, fy).
pub record InRow (ex fx y a b : ℕ) : Type 0 where
  pub across : OnWay ex fx a
  pub row : b ≡ y

pub record Spanned (ex ey fx fy a b : ℕ) : Type 0 where
  pub across : OnWay ex fx a
  pub along : OnWay ey fy b

-- (x, y) is (ex, ey), or a neighbour one hop nearer it has a mark.
unfoldable pub backed : List ℕ → ℕ → ℕ → ℕ → ℕ → ℕ → ℕ → Bool
backed g w h ex ey x y = (eqb x ex && eqb y ey) || (east_west_in g w h ex x y || north_south_in g w h ey x y)

-- A pass from (ex, ey) over the crossings of P. Afterwards each has v's number if it is backed, and
-- else 0; no other crossing changes.
pub record Pass (w h ex ey : ℕ) (P : ℕ → ℕ → Type 0) (v : ℕ → ℕ → ℕ) (g g' : List ℕ) : Type 0 where
  pub size : length g' ≡ length g
  pub passed : (x y : ℕ) → On w h x y → P x y → at g' w x y ≡ cond (backed g' w h ex ey x y) (v x y) 0
  pub other : (x y : ℕ) → On w h x y → ¬ P x y → at g' w x y ≡ at g w x y

-- The closure of a pass over the crossings of P on the sheet g, by what it may be called with and
-- what it gives: it may be called for each of them with the mark there, and gives v's number.
pub record Tells (may : ℕ → Place → Type 0) (gives : ℕ → Place → ℕ → Type 0) (w h : ℕ) (P : ℕ → ℕ → Type 0) (v : ℕ → ℕ → ℕ) (g : List ℕ) : Type 0 where
  pub called : (x y : ℕ) → On w h x y → P x y → may (at g w x y) (record { x = x; y = y })
  pub told : (x y u : ℕ) → On w h x y → P x y → gives (at g w x y) (record { x = x; y = y }) u → u ≡ v x y

-- 1 where the sheet of the closed crossings has no mark, and else 0.
abbrev pub free : List ℕ → ℕ → ℕ → ℕ → ℕ
free s w x y = bit (eqb (at s w x y) 0)
