-- Req 06, the crossing-lines test: columns and rows that are open throughout the rectangle that two
-- places span, the crossing where they meet, and the drive by way of it. C tells the closed
-- crossings, s and d are the places.
use Rattle.std.specs.Prelude.{◌≡◌, List, ◌∷◌, ◌++◌, ℕ, ◌≤◌}
use Rattle.field.specs.Map.{number}
use Rattle.field.specs.Labels.{Open}
use Rattle.field.specs.Chooser.{Driven}
use Rattle.field.specs.Geometry.Shapes.{Between}

module _ (w h : ℕ) (C : ℕ → ℕ → Type 0) (sx sy dx dy : ℕ) where
  -- "some column between them, ends included, ... open throughout the rectangle the two places
  -- span": column x is one.
  pub record OpenColumn (x : ℕ) : Type 0 where
    pub between : Between sx x dx
    pub throughout : (y : ℕ) → Between sy y dy → Open w h C x y

  -- "some row between them, ends included, ... open throughout the rectangle the two places span":
  -- row y is one.
  pub record OpenRow (y : ℕ) : Type 0 where
    pub between : Between sy y dy
    pub throughout : (x : ℕ) → Between sx x dx → Open w h C x y

  -- "hand back the westmost such column and the southmost such row": these two.
  pub record Lines (column row : ℕ) : Type 0 where
    pub column_open : OpenColumn column
    pub westmost : (x : ℕ) → OpenColumn x → column ≤ x
    pub row_open : OpenRow row
    pub southmost : (y : ℕ) → OpenRow y → row ≤ y

  -- "say yes if some column between them ... and some row between them ... are open throughout the
  -- rectangle"
  pub record HasLines : Type 0 where
    pub column : ℕ
    pub row : ℕ
    pub column_open : OpenColumn column
    pub row_open : OpenRow row

-- The answer of the test: no, or yes with a column and a row.
pub data LinesAnswer : Type 0 where
  says_no : LinesAnswer
  says_yes : (column row : ℕ) → LinesAnswer

-- What the test says of two places.
abbrev pub Says : ℕ → ℕ → (ℕ → ℕ → Type 0) → ℕ → ℕ → ℕ → ℕ → LinesAnswer → Type 0
Says w h C sx sy dx dy says_no = ¬ HasLines w h C sx sy dx dy
Says w h C sx sy dx dy (says_yes column row) = Lines w h C sx sy dx dy column row

-- "a drive by way of the crossing where column and row meet: document 01's drive from s to there,
-- then the one from there to d with the state handed on, the meeting crossing written once." (x, y)
-- is the meeting crossing; from state z the drive l is made, and the state after it is z'.
pub record DrivenBy (w h : ℕ) (C : ℕ → ℕ → Type 0) (sx sy dx dy x y z : ℕ) (l : List ℕ) (z' : ℕ) : Type 0 where
  pub first : List ℕ
  pub onward : List ℕ
  pub handed_on : ℕ
  pub to_meeting : Driven w h C sx sy x y sx sy z first handed_on
  pub from_meeting : Driven w h C x y dx dy x y handed_on (number w x y ∷ onward) z'
  pub joined : l ≡ first ++ onward
