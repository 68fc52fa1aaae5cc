-- The promise of `next_map`: what is told of the bytes at hand stands for every input that begins
-- with them; and where nothing is told yet, nothing could be.
use Rattle.std.specs.Prelude.{◌≡◌, Option, Some, None, Result, Ok, Err, Bool, true, false, List, [], ◌++◌, ℕ, ◌*◌, ◌≤◌, length, take, drop}
use Rattle.mapfile.specs.Following.{most_bytes, Undecided, Outcome, a_map, refused, too_long, FirstIs}
use Rattle.field.specs.Refusals.{number_of}
use Rattle.following.specs.declared.Piece.{Piece}
use Rattle.following.specs.declared.Stop.{Stop}
use Rattle.following.specs.declared.Stop.TheVariants.{Refused, Long}

-- These bytes may follow: any, or none where the input ends.
abbrev pub Follows : Bool → List ℕ → Type 0
Follows ended t = ended ≡ true → t ≡ []

-- An outcome stands, whatever follows.
abbrev pub Stands : List ℕ → Bool → (List ℕ → Outcome) → Type 0
Stands src ended o = (t : List ℕ) → Follows ended t → FirstIs (src ++ t) (o t)

-- A map stands first, of so many of the bytes; its bits, in raster order, are the first h × w of
-- the bytes handed back.
pub record MapRead (src : List ℕ) (ended : Bool) (w h used : ℕ) (out : List ℕ) : Type 0 where
  pub within : used ≤ length src
  pub stands : Stands src ended (λ t. a_map w h (take (h * w) out) (drop used src ++ t))

-- The input may go on, and these bytes, not more than a map may have, neither end the map nor show
-- a fault.
pub record NotTold (src : List ℕ) (ended : Bool) : Type 0 where
  pub going : ended ≡ false
  pub short : length src ≤ most_bytes
  pub undecided : Undecided src

-- What each answer says.
abbrev pub FirstRead : List ℕ → Bool → List ℕ → Result (Option Piece) Stop → Type 0
FirstRead src ended out (Ok (Some p)) = MapRead src ended p.map.w p.map.h p.used out
FirstRead src ended out (Ok None) = NotTold src ended
FirstRead src ended out (Err (Refused r)) = Stands src ended (λ t. refused (number_of r))
FirstRead src ended out (Err Long) = Stands src ended (λ t. too_long)
