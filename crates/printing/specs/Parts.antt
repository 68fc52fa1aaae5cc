-- How a piece of text stands in an output.
use Rattle.std.specs.Prelude.{◌≡◌, List, [], ◌∷◌, ◌++◌, ℕ, ◌+◌, ◌*◌, ◌≤◌, length, take, drop}
use Rattle.printing.specs.Printed.{most_printed, number_room, Printed, Line}

-- A piece stands in the output from a place on, up to its end. All else is as it was.
pub record Put (out : List ℕ) (at : ℕ) (piece after : List ℕ) (end : ℕ) : Type 0 where
  pub size : at + length piece ≡ end
  pub fits : end ≤ length out
  pub is : after ≡ take at out ++ (piece ++ drop end out)

-- Some piece of a kind stands there.
pub record Puts (P : List ℕ → Type 0) (out : List ℕ) (at : ℕ) (after : List ℕ) (end : ℕ) : Type 0 where
  pub piece : List ℕ
  pub right : P piece
  pub put : Put out at piece after end

-- A number as it is printed, and one byte after it.
pub record NumberThen (v mark : ℕ) (l : List ℕ) : Type 0 where
  pub digits : List ℕ
  pub printed : Printed v digits
  pub few : length digits ≤ most_printed
  pub is : l ≡ digits ++ mark ∷ []

-- A line of numbers, and that it takes their room at most.
pub record NumbersLine (vs l : List ℕ) : Type 0 where
  pub line : Line vs l
  pub few : length l ≤ length vs * number_room
