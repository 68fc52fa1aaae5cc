-- The faults that the pass counts: of one crossing, from five bytes; of a row, from three rows; of
-- a row of a sheet.
use Rattle.std.specs.Prelude.{◌≡◌, List, ◌↔◌, ℕ, zero, suc, ◌+◌, ◌<◌, ◌≤◌, ltb, length, get_or}
use Rattle.field.specs.Map.{side, at}
use Rattle.field.specs.Workings.Sheet.{bit, lit}
use Rattle.field.specs.Workings.MorningLaws.{Kept}

-- 1 for a byte that is not 0.
unfoldable pub shown_by : ℕ → ℕ
shown_by b = bit (ltb 0 b)

pub record Shown (b r : ℕ) : Type 0 where
  pub small : r ≤ 1
  pub is : r ≡ shown_by b

-- A crossing's byte and its neighbours' are as they may be.
pub record Good (here east south west north : ℕ) : Type 0 where
  pub byte : here ≤ 2
  pub few : here ≡ 0 → shown_by east + shown_by south + shown_by west + shown_by north ≤ 1

pub record Judged (here east south west north r : ℕ) : Type 0 where
  pub small : r ≤ 1
  pub told : (r ≡ 0) ↔ Good here east south west north

-- The byte west of x in a row: 0 at the edge.
abbrev pub west_in : List ℕ → ℕ → ℕ
west_in row zero = 0
west_in row (suc x) = get_or row x 0

abbrev pub GoodAt : List ℕ → List ℕ → List ℕ → ℕ → Type 0
GoodAt south here north x = Good (get_or here x 0) (get_or here (x + 1) 0) (get_or south x 0) (west_in here x) (get_or north x 0)

-- Three rows of one length, that of a map's row.
pub record RowLent (south here north : List ℕ) : Type 0 where
  pub some : 1 ≤ length here
  pub most : length here ≤ side
  pub as_south : length south ≡ length here
  pub as_north : length north ≡ length here

-- r is 0 exactly where no crossing of the row is at fault.
abbrev pub RowJudged : List ℕ → List ℕ → List ℕ → ℕ → Type 0
RowJudged south here north r = (r ≡ 0) ↔ ((x : ℕ) → x < length here → GoodAt south here north x)

-- Row y of a sheet: its bytes; past its end, as past the map's, nothing is shown closed.
pub record IsRow (w h : ℕ) (s : List ℕ) (y : ℕ) (row : List ℕ) : Type 0 where
  pub long : length row ≡ w
  pub byte : (x : ℕ) → x < w → get_or row x 0 ≡ at s w x y
  pub shows : (x : ℕ) → shown_by (get_or row x 0) ≡ lit s w h x y

-- A row of a sheet, and a row of zeros.
pub record RowAsked (w h : ℕ) (none : List ℕ) (y : ℕ) : Type 0 where
  pub row : y < h
  pub long : length none ≡ w
  pub zeros : (i : ℕ) → get_or none i 0 ≡ 0

-- r is 0 exactly where no crossing of row y is at fault.
abbrev pub RowAtJudged : ℕ → ℕ → List ℕ → ℕ → ℕ → Type 0
RowAtJudged w h s y r = (r ≡ 0) ↔ ((x : ℕ) → x < w → Kept w h s x y)
