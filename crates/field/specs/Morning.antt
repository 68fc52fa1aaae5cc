-- A morning sheet (document 02, Req 09): "a label sheet handed out at breakfast", what it shows,
-- and when it is taken. R tells the rocks that stop this cart. Assurance, permitted hops and their
-- answer are document 01's, read over the crossings that the sheet shows closed.
use Rattle.std.specs.Prelude.{◌≡◌, List, ◌⊎◌, ℕ, ◌<◌, ◌≤◌, length, get_or}
use Rattle.field.specs.Map.{On, at, Near, Apart}

-- "0 open, 1 rock, 2 shut": what the sheet shows of a crossing. A rock and a shut crossing are
-- closed.
pub record ShownOpen (w h : ℕ) (s : List ℕ) (x y : ℕ) : Type 0 where
  pub on : On w h x y
  pub zero : at s w x y ≡ 0

pub record ShownClosed (w h : ℕ) (s : List ℕ) (x y : ℕ) : Type 0 where
  pub on : On w h x y
  pub label : (at s w x y ≡ 1) ⊎ (at s w x y ≡ 2)

-- "every byte is 0, 1 or 2"
abbrev pub LabelBytes : List ℕ → Type 0
LabelBytes s = (i : ℕ) → i < length s → get_or s i 0 ≤ 2

-- "every crossing with a marker that stops this cart is shown closed"
abbrev pub RocksShown : (ℕ → ℕ → Type 0) → ℕ → ℕ → List ℕ → Type 0
RocksShown R w h s = (x y : ℕ) → On w h x y → R x y → ShownClosed w h s x y

-- "no crossing shown open has two or more neighbours shown closed"
abbrev pub NoneBetween : ℕ → ℕ → List ℕ → Type 0
NoneBetween w h s =
    (x y a b c d : ℕ) → ShownOpen w h s x y → Near x y a b → Near x y c d → Apart a b c d → ShownClosed w h s a b → ShownClosed w h s c d → ⊥

-- "It is taken if every byte is 0, 1 or 2, every crossing with a marker that stops this cart is
-- shown closed, and no crossing shown open has two or more neighbours shown closed."
pub record SheetTaken (R : ℕ → ℕ → Type 0) (w h : ℕ) (s : List ℕ) : Type 0 where
  pub bytes : LabelBytes s
  pub rocks : RocksShown R w h s
  pub none_between : NoneBetween w h s
