-- What the functions behind `measure` promise one another. A line is a row or a column, its places
-- counted from the edge that its way leads to, and a running number goes over it from there.
use Rattle.std.specs.Prelude.{◌≡◌, cond, List, ◌≢◌, ◌⊎◌, ℕ, suc, zero, ◌+◌, ◌*◌, ◌-◌, ◌^◌, ◌<◌, ◌≤◌, eqb, length, get_or}
use Rattle.std.specs.Int.Bits.{bit_and}
use Rattle.field.specs.Map.{side, On, at, no_distance}
use Rattle.field.specs.Distances.{Way, eastward, southward, westward, northward}
use Rattle.measures.specs.declared.each.End.{End}
use Rattle.measures.specs.declared.each.End.TheVariants.{High, Low}

-- Place k of n, counted from the high end or from the low one.
abbrev pub nth : End → ℕ → ℕ → ℕ
nth High n k = n - 1 - k
nth Low n k = k

pub record Nth (e : End) (n k r : ℕ) : Type 0 where
  pub is : r ≡ nth e n k
  pub below : r < n

-- The number k further from that end.
abbrev pub on_to : End → ℕ → ℕ → ℕ
on_to High n k = n - k
on_to Low n k = n + k

-- A line of n places counted from that end, no longer than a side: its numbers are numbers.
pub record Sound (e : End) (start n : ℕ) : Type 0 where
  pub below : e ≡ High → n ≤ start + 1
  pub short : n ≤ side
  pub few : start + n < 2 ^ 64

-- The way that leads to a row's high end or to its low one, and so for a column.
abbrev pub row_way : End → Way
row_way High = eastward
row_way Low = westward

abbrev pub column_way : End → Way
column_way High = northward
column_way Low = southward

-- A running number after k places: it starts as c, and each place makes the next of the last one
-- and of what the place itself has, f.
unfoldable pub run : (ℕ → ℕ → ℕ) → ℕ → (ℕ → ℕ) → ℕ → ℕ
run step c f zero = c
run step c f (suc k) = step (run step c f k) (f k)

-- What a crossing by itself has is 0 where it is closed, and none, all of whose bits are set,
-- elsewhere. So this is 0 at a closed crossing, and else one more.
unfoldable pub counted : ℕ → ℕ → ℕ
counted last own = bit_and (last + 1) own

-- The same for a number that may be none, which stays none: 0 at a closed crossing, none where the
-- neighbour has none, and else one more.
unfoldable pub onward : ℕ → ℕ → ℕ
onward last own = cond (eqb own 0) 0 (cond (eqb last no_distance) no_distance (last + 1))

-- What a crossing by itself has, r, of its mark.
pub record OwnOf (mark r : ℕ) : Type 0 where
  pub closed : mark ≢ 0 → r ≡ 0
  pub free : mark ≡ 0 → r ≡ no_distance

-- Every crossing has on sheet u what it has by itself; s marks the closed ones.
pub record Owned (s u : List ℕ) : Type 0 where
  pub size : length u ≡ length s
  pub each : (i : ℕ) → i < length s → OwnOf (get_or s i 0) (get_or u i 0)

-- What a crossing can have by itself.
abbrev pub Own : ℕ → Type 0
Own n = (n ≡ 0) ⊎ (n ≡ no_distance)

-- A sheet of the map on which every crossing has what it has by itself.
pub record OwnSheet (w h : ℕ) (u : List ℕ) : Type 0 where
  pub room : length u ≡ h * w
  pub own : (x y : ℕ) → On w h x y → Own (at u w x y)

-- A sheet of the map, and a row on which every crossing has what it has by itself.
pub record InRow (w h y : ℕ) (u : List ℕ) : Type 0 where
  pub room : length u ≡ h * w
  pub in_y : y < h
  pub own : (x : ℕ) → x < w → Own (at u w x y)

-- A sheet of the map and two rows.
pub record Beside (w h y z : ℕ) (u : List ℕ) : Type 0 where
  pub room : length u ≡ h * w
  pub in_y : y < h
  pub in_z : z < h
  pub other : y ≢ z

-- What place k of a line has on sheet u. The line's first place has the number `start`.
abbrev pub placed : End → ℕ → List ℕ → ℕ → ℕ
placed e start u k = get_or u (on_to e start k) 0

-- A line on a sheet, with one of its places, or the end behind them.
pub record OnLineFrom (e : End) (start from n : ℕ) (u : List ℕ) : Type 0 where
  pub inside : (k : ℕ) → k < n → on_to e start k < length u
  pub within : from ≤ n

-- The lowest number of the four places from place k on.
abbrev pub lowest_of : End → ℕ → ℕ → ℕ
lowest_of High start k = start - (k + 3)
lowest_of Low start k = start + k

-- From one place on, up to place r, all have m.
pub record Past (m : ℕ) (e : End) (start from n : ℕ) (u : List ℕ) (r : ℕ) : Type 0 where
  pub least : from ≤ r
  pub most : r ≤ n
  pub same : (k : ℕ) → from ≤ k → k < r → placed e start u k ≡ m

-- From one place on, r is the first that is closed, or the end.
pub record Met (e : End) (start from n : ℕ) (u : List ℕ) (r : ℕ) : Type 0 where
  pub least : from ≤ r
  pub most : r ≤ n
  pub free : (k : ℕ) → from ≤ k → k < r → placed e start u k ≢ 0
  pub closed : r < n → placed e start u r ≡ 0

-- From sheet u to sheet v a number runs along a line, from 0 on, and nothing else changes.
pub record Ran (e : End) (start n : ℕ) (u v : List ℕ) : Type 0 where
  pub size : length v ≡ length u
  pub ran : (k : ℕ) → k < n → placed e start v k ≡ run counted 0 (placed e start u) (suc k)
  pub rest : (i : ℕ) → ((k : ℕ) → k < n → i ≢ on_to e start k) → get_or v i 0 ≡ get_or u i 0

-- The number before each place: none before the first.
abbrev pub lead : (ℕ → ℕ) → ℕ → ℕ
lead f zero = no_distance
lead f (suc k) = f k

-- On sheet v each number of row y is made of the one before it and of what the crossing has on
-- sheet u.
pub record RowOnward (w : ℕ) (e : End) (y : ℕ) (u v : List ℕ) : Type 0 where
  pub made : (k : ℕ) → k < w → at v w (nth e w k) y ≡ onward (lead (λ j. at v w (nth e w j) y) k) (at u w (nth e w k) y)

-- From sheet u to sheet v that is done along row y, and no other row changes.
pub record RowRun (w h : ℕ) (e : End) (y : ℕ) (u v : List ℕ) : Type 0 where
  pub size : length v ≡ length u
  pub ran : RowOnward w e y u v
  pub rest : (a b : ℕ) → On w h a b → b ≢ y → at v w a b ≡ at u w a b

-- The same along every row.
pub record RowsRun (w h : ℕ) (e : End) (u v : List ℕ) : Type 0 where
  pub size : length v ≡ length u
  pub ran : (y : ℕ) → y < h → RowOnward w e y u v

-- From sheet u to sheet v row y is made of what it has and of row z, and no other row changes.
pub record RowMade (w h y z : ℕ) (u v : List ℕ) : Type 0 where
  pub size : length v ≡ length u
  pub made : (x : ℕ) → x < w → at v w x y ≡ onward (at u w x z) (at u w x y)
  pub rest : (a b : ℕ) → On w h a b → b ≢ y → at v w a b ≡ at u w a b

-- From sheet u to sheet v a running number goes along every column; the edge's own numbers stand
-- already.
pub record ColumnsRun (w h : ℕ) (e : End) (u v : List ℕ) : Type 0 where
  pub size : length v ≡ length u
  pub edge : (x : ℕ) → x < w → at v w x (nth e h 0) ≡ at u w x (nth e h 0)
  pub ran : (x k : ℕ) → x < w → suc k < h → at v w x (nth e h (suc k)) ≡ onward (at v w x (nth e h k)) (at u w x (nth e h (suc k)))
