-- What the parts of telling promise, of bytes that are not more than a map may have.
use Rattle.std.specs.Prelude.{◌≡◌, Option, Some, None, Result, Ok, Err, Bool, false, List, [], ◌∷◌, ◌++◌, ℕ, ◌+◌, ◌*◌, ◌≤◌, length, take, drop}
use Rattle.field.specs.declared.refusals.Refusal.{Refusal}
use Rattle.field.specs.Map.{side, most_markers}
use Rattle.field.specs.Refusals.{number_of}
use Rattle.mapfile.specs.Header.{Header}
use Rattle.mapfile.specs.HeaderCut.{probe}
use Rattle.mapfile.specs.File.{raw, Letters, Begins, markers_of}
use Rattle.mapfile.specs.Following.{most_bytes, MapFirst, FirstFault, Shows, Undecided}
use Rattle.following.specs.declared.Piece.{Piece}

-- A map ends within the bytes.
pub record MapEnds (src : List ℕ) (w h used : ℕ) (out : List ℕ) : Type 0 where
  pub within : used ≤ length src
  pub map : MapFirst src w h (take (h * w) out) (drop used src)
  pub few : length (markers_of w h (take (h * w) out)) ≤ most_markers

-- A fault of the bytes, which shows if the input may go on.
pub record Faulty (src : List ℕ) (ended : Bool) (n : ℕ) : Type 0 where
  pub fault : FirstFault src n
  pub shows : ended ≡ false → Shows src n

-- The input may go on, and they tell nothing yet.
pub record Waits (src : List ℕ) (ended : Bool) : Type 0 where
  pub going : ended ≡ false
  pub undecided : Undecided src

abbrev pub PieceRead : List ℕ → Bool → List ℕ → Result (Option Piece) Refusal → Type 0
PieceRead src ended out (Ok (Some p)) = MapEnds src p.map.w p.map.h p.used out
PieceRead src ended out (Ok None) = Waits src ended
PieceRead src ended out (Err r) = Faulty src ended (number_of r)

-- The bytes and the probe after them stand at the front.
abbrev pub Joined : List ℕ → List ℕ → Type 0
Joined src out = take (length src + length probe) out ≡ src ++ probe

-- They begin with a header of two numbers.
pub record HasHeader (l : List ℕ) : Type 0 where
  pub w : ℕ
  pub h : ℕ
  pub body : List ℕ
  pub header : Header (w ∷ h ∷ []) l body

-- What the parts ask: not more bytes than a map may have, and a byte for each crossing of the
-- largest map;
pub record MayRead (src out : List ℕ) : Type 0 where
  pub short : length src ≤ most_bytes
  pub room : side * side ≤ length out

-- that the letters are there;
pub record Lettered (src : List ℕ) : Type 0 where
  pub letters : Letters raw src (drop 2 src)
  pub short : length src ≤ most_bytes

pub record MayReadHeader (src out : List ℕ) : Type 0 where
  pub lettered : Lettered src
  pub room : side * side ≤ length out

-- that no header follows;
pub record Headless (src : List ℕ) : Type 0 where
  pub lettered : Lettered src
  pub none : ¬ HasHeader (drop 2 src)

-- that the raster begins at this place.
pub record MayReadRaster (src : List ℕ) (at w h : ℕ) (out : List ℕ) : Type 0 where
  pub within : at ≤ length src
  pub begins : Begins src raw w h (drop at src)
  pub room : side * side ≤ length out
