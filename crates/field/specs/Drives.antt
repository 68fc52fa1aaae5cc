-- Shortest drives and their region. C tells the closed crossings; a drive is a list of crossing
-- numbers, s first and d last.
use Rattle.std.specs.Prelude.{◌≡◌, List, [], ◌∷◌, ℕ, ◌+◌, ◌*◌, ◌<◌, length, get_or}
use Rattle.field.specs.Map.{On, at, Near, number, dist}
use Rattle.field.specs.Labels.{Open}

-- "a sequence of open crossings, each a neighbour of the one before", from (x, y) to (dx, dy).
pub data Drive (w h : ℕ) (C : ℕ → ℕ → Type 0) (dx dy : ℕ) : ℕ → ℕ → List ℕ → Type 0 where
  last : {x y : ℕ} {l : List ℕ} → x ≡ dx → y ≡ dy → Open w h C x y → l ≡ number w x y ∷ [] → Drive w h C dx dy x y l
  next : {x y a b : ℕ} {l m : List ℕ} → Open w h C x y → Near x y a b → Drive w h C dx dy a b m → l ≡ number w x y ∷ m → Drive w h C dx dy x y l

-- "A shortest drive from s to d is a sequence of open crossings, each a neighbour of the one
-- before, from s to d, with as many hops as their distance". A list of k crossings makes k - 1
-- hops. "From a crossing to itself it has 0 hops."
pub record ShortestDrive (w h : ℕ) (C : ℕ → ℕ → Type 0) (sx sy dx dy : ℕ) (l : List ℕ) : Type 0 where
  pub drive : Drive w h C dx dy sx sy l
  pub hops : length l ≡ dist sx sy dx dy + 1

-- There is a shortest drive: refusal 9 is given exactly where there is none.
pub record HasDrive (w h : ℕ) (C : ℕ → ℕ → Type 0) (sx sy dx dy : ℕ) : Type 0 where
  pub route : List ℕ
  pub shortest : ShortestDrive w h C sx sy dx dy route

-- "The region is the set of crossings on at least one shortest drive."
pub record InRegion (w h : ℕ) (C : ℕ → ℕ → Type 0) (sx sy dx dy x y : ℕ) : Type 0 where
  pub on : On w h x y
  pub route : List ℕ
  pub shortest : ShortestDrive w h C sx sy dx dy route
  pub place : ℕ
  pub in_route : place < length route
  pub is_there : get_or route place 0 ≡ number w x y

-- "Region sheet: 1 in, 0 out." v is what stands there for (x, y).
pub data InOut (P : Type 0) (v : ℕ) : Type 0 where
  is_in : v ≡ 1 → P → InOut P v
  is_out : v ≡ 0 → ¬ P → InOut P v

pub record RegionSheet (w h : ℕ) (C : ℕ → ℕ → Type 0) (sx sy dx dy : ℕ) (s : List ℕ) : Type 0 where
  pub size : length s ≡ h * w
  pub region : (x y : ℕ) → On w h x y → InOut (InRegion w h C sx sy dx dy x y) (at s w x y)
