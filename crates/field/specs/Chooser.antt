-- The chooser: its generator, its candidates, its choice, and the drive that it makes from a state.
use Rattle.std.specs.Prelude.{◌≡◌, List, [], ◌∷◌, ℕ, zero, suc, ◌+◌, ◌*◌, ◌/◌, ◌%◌}
use Rattle.field.specs.Map.{Near, number, dist}
use Rattle.field.specs.Drives.{InRegion}

-- "the 32-bit state z becomes 1664525 × z + 1013904223, modulo 4,294,967,296"
unfoldable pub drawn : ℕ → ℕ
drawn z = (1664525 * z + 1013904223) % 4294967296

-- "the start state advanced once for each hop" (request 13): z drawn from n times.
unfoldable pub advanced : ℕ → ℕ → ℕ
advanced zero z = z
advanced (suc n) z = advanced n (drawn z)

-- "The state after a drive is then the start state advanced once for each hop". So many crossings
-- make one hop less.
pub record Advances (crossings z z' : ℕ) : Type 0 where
  pub hops : ℕ
  pub counted : crossings ≡ hops + 1
  pub is : z' ≡ advanced hops z

-- The top bit of a 32-bit state.
unfoldable pub top : ℕ → ℕ
top z = z / 2147483648

module _ (w h : ℕ) (C : ℕ → ℕ → Type 0) (sx sy dx dy : ℕ) where
  -- "At each crossing the candidates are the neighbours in the region one hop nearer d."
  pub record Candidate (x y a b : ℕ) : Type 0 where
    pub near : Near x y a b
    pub within : InRegion w h C sx sy dx dy a b
    pub nearer : dist a b dx dy + 1 ≡ dist x y dx dy

  -- At (x, y) in state z the chooser takes (a, b), in state z'. "With one, take it. With two,
  -- draw: ... top bit 0 takes the east-west candidate, 1 the north-south one." In place of "No draw
  -- is made otherwise", request 13: "From now on the chooser draws at each hop, whether there is
  -- one candidate or two; with one the draw is thrown away."
  pub data Chosen (x y z a b z' : ℕ) : Type 0 where
    alone : Candidate x y a b → ((c d : ℕ) → Candidate x y c d → (c ≡ a) × (d ≡ b)) → z' ≡ drawn z → Chosen x y z a b z'
    east_west : (d : ℕ) → Candidate x y a b → b ≡ y → Candidate x y x d → z' ≡ drawn z → top z' ≡ 0 → Chosen x y z a b z'
    north_south : (c : ℕ) → Candidate x y a b → a ≡ x → Candidate x y c y → z' ≡ drawn z → top z' ≡ 1 → Chosen x y z a b z'

  -- The drive that the chooser makes from (x, y) in state z: its crossing numbers, d last, and the
  -- state after it. At d nothing is drawn: "a drive of no hops leaves it" (request 13).
  pub data Driven : ℕ → ℕ → ℕ → List ℕ → ℕ → Type 0 where
    arrived : {x y z z' : ℕ} {l : List ℕ} → x ≡ dx → y ≡ dy → l ≡ number w x y ∷ [] → z' ≡ z → Driven x y z l z'
    onward : {x y z a b z' z'' : ℕ} {l m : List ℕ} → Chosen x y z a b z' → Driven a b z' m z'' → l ≡ number w x y ∷ m → Driven x y z l z''
