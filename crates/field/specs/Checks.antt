-- Drives drawn by the dispatch desk (request 01): what is at fault with a drawn list of crossing
-- numbers, at which position, and why. C tells the closed crossings. Positions count from 0.
use Rattle.std.specs.Prelude.{◌≡◌, List, [], ◌∷◌, ℕ, ◌+◌, ◌<◌, length, get_or}
use Rattle.field.specs.Map.{On, number, Near, dist}
use Rattle.field.specs.Rule.{Rule, rule, Gives}
use Rattle.field.specs.Reasons.{no_fault, wrong_start, off_the_map, is_closed, not_a_neighbour, not_nearer, ended_early, went_on}

-- What the checker finds of a drawn list: why it is refused, and the position of the first crossing
-- at fault; both are 0 for a list that is accepted.
pub record Finding : Type 0 where
  pub reason : ℕ
  pub position : ℕ

-- The list has the crossing (x, y) of the map at position p.
pub record Has (w h : ℕ) (l : List ℕ) (p x y : ℕ) : Type 0 where
  pub in_list : p < length l
  pub on : On w h x y
  pub is : get_or l p 0 ≡ number w x y

-- It has (x, y) at position p, and (a, b) right before it.
pub record Hop (w h : ℕ) (l : List ℕ) (p a b x y : ℕ) : Type 0 where
  pub before : ℕ
  pub next : p ≡ before + 1
  pub from : Has w h l before a b
  pub to : Has w h l p x y

-- "wrong start"
pub record WrongStart (w h sx sy : ℕ) (l : List ℕ) (p : ℕ) : Type 0 where
  pub first : p ≡ 0
  pub in_list : p < length l
  pub other : ¬ Has w h l p sx sy

-- "off the map": no crossing of the map has the number.
pub record OffTheMap (w h : ℕ) (l : List ℕ) (p : ℕ) : Type 0 where
  pub in_list : p < length l
  pub none : (x y : ℕ) → ¬ Has w h l p x y

-- "closed"
pub record IsClosed (w h : ℕ) (C : ℕ → ℕ → Type 0) (l : List ℕ) (p : ℕ) : Type 0 where
  pub x : ℕ
  pub y : ℕ
  pub here : Has w h l p x y
  pub closed : C x y

-- "not a neighbour" of the crossing before
pub record NotNeighbour (w h : ℕ) (l : List ℕ) (p : ℕ) : Type 0 where
  pub a : ℕ
  pub b : ℕ
  pub x : ℕ
  pub y : ℕ
  pub hop : Hop w h l p a b x y
  pub far : ¬ Near a b x y

-- "not nearer d" than the crossing before
pub record NotNearer (w h dx dy : ℕ) (l : List ℕ) (p : ℕ) : Type 0 where
  pub a : ℕ
  pub b : ℕ
  pub x : ℕ
  pub y : ℕ
  pub hop : Hop w h l p a b x y
  pub back : ¬ (dist x y dx dy < dist a b dx dy)

-- "A list that ends early is at fault at its length, an empty one at position 0."
pub record EndedEarly (w h dx dy : ℕ) (l : List ℕ) (p : ℕ) : Type 0 where
  pub past : p ≡ length l
  pub never : (q : ℕ) → ¬ Has w h l q dx dy

-- "A crossing after d"
pub record WentOn (w h dx dy : ℕ) (l : List ℕ) (p : ℕ) : Type 0 where
  pub in_list : p < length l
  pub arrival : ℕ
  pub earlier : arrival < p
  pub there : Has w h l arrival dx dy

module _ (w h : ℕ) (C : ℕ → ℕ → Type 0) (sx sy dx dy : ℕ) (l : List ℕ) where
  -- The reasons at position p, in their order. "A crossing after d is always at fault as going on;
  -- at any other the reasons are tried in the order given."
  abbrev pub reasons : ℕ → List Rule
  reasons p =
      rule went_on (WentOn w h dx dy l p)
      ∷ rule wrong_start (WrongStart w h sx sy l p)
      ∷ rule off_the_map (OffTheMap w h l p)
      ∷ rule is_closed (IsClosed w h C l p)
      ∷ rule not_a_neighbour (NotNeighbour w h l p)
      ∷ rule not_nearer (NotNearer w h dx dy l p)
      ∷ rule ended_early (EndedEarly w h dx dy l p)
      ∷ []

  -- Position p is not at fault: no reason applies there.
  abbrev pub Sound : ℕ → Type 0
  Sound p = Gives (reasons p) no_fault

  -- "it tells the position of the first crossing at fault and why": nothing before p is at fault,
  -- and r is the first reason that applies at p.
  pub record AtFault (p r : ℕ) : Type 0 where
    pub before : (q : ℕ) → q < p → Sound q
    pub why : Gives (reasons p) r
    pub some : ¬ (r ≡ no_fault)

  -- The list is accepted: no position is at fault.
  abbrev pub Accepted : Type 0
  Accepted = (p : ℕ) → Sound p

  -- What the checker finds: no reason and position 0 for an accepted list, and otherwise the reason
  -- and the position of the first fault.
  pub data Finds (f : Finding) : Type 0 where
    accepted : Accepted → f.reason ≡ no_fault → f.position ≡ 0 → Finds f
    at_fault : AtFault f.position f.reason → Finds f
