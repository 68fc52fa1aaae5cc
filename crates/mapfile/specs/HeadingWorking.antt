-- A header of so many numbers, read: its numbers and what follows it, or that there is none.
use Rattle.std.specs.Prelude.{◌≡◌, List, [], ◌∷◌, ℕ, zero, suc, length}
use Rattle.std.proofs.Math.Option.{Option, none, some}
use Rattle.mapfile.specs.Header.{Header}
use Rattle.mapfile.specs.HeaderWorking.{Value, value, no_value, next_number, last_blank}

-- The numbers and what follows the header.
pub data Heading : Type 0 where
  heading : List ℕ → List ℕ → Heading
  no_heading : Heading

-- After the last number, its one blank byte; before what is read of the later numbers, one more;
-- what a number's reading gives, and then the rest's.
unfoldable pub lastly : Option (List ℕ) → Heading
lastly none = no_heading
lastly (some rest) = heading [] rest

unfoldable pub onto : ℕ → Heading → Heading
onto v (heading vs rest) = heading (v ∷ vs) rest
onto v no_heading = no_heading

unfoldable pub and_then : Value → (List ℕ → Heading) → Heading
and_then (value v l) more = onto v (more l)
and_then no_value more = no_heading

-- The bytes read as n numbers, each after a separator, and the blank byte after the last.
unfoldable pub heading_of : ℕ → List ℕ → Heading
heading_of zero l = lastly (last_blank l)
heading_of (suc n) l = and_then (next_number l) (heading_of n)

-- Several numbers before what is read of the later ones.
unfoldable pub onto_all : List ℕ → Heading → Heading
onto_all [] k = k
onto_all (v ∷ vs) k = onto v (onto_all vs k)

-- What is read tells the bytes: a header of n numbers, or that they begin with none.
abbrev pub HeadingTold : ℕ → List ℕ → Heading → Type 0
HeadingTold n l (heading vs rest) = (length vs ≡ n) × Header vs l rest
HeadingTold n l no_heading = (vs rest : List ℕ) → length vs ≡ n → ¬ Header vs l rest
