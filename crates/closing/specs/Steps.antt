-- A word grown between the words on its four sides, step by step.
use Rattle.std.specs.Prelude.{◌≡◌, ◌⊎◌, ℕ, ◌+◌, ◌^◌, ◌<◌, ◌≤◌}
use Rattle.bits.specs.Bit.{bit_at, EastOf, WestOf}

-- How many of the four neighbours of bit i are set: e and w have the east and the west neighbours,
-- n and s the north and the south ones.
abbrev pub around_at : ℕ → ℕ → ℕ → ℕ → ℕ → ℕ
around_at e w n s i = bit_at e i + bit_at w i + bit_at n i + bit_at s i

-- r is the word v after one step between the words n, s, u to the east and t to the west: a bit is
-- set exactly if it was, or if the mask has it and two or more of its neighbours are set.
pub record Stepped (v n s u t mask r : ℕ) : Type 0 where
  pub e : ℕ
  pub w : ℕ
  pub east : EastOf 64 v u e
  pub west : WestOf 64 v t w
  pub kept : (i : ℕ) → bit_at v i ≡ 1 → bit_at r i ≡ 1
  pub grows : (i : ℕ) → i < 64 → bit_at mask i ≡ 1 → 2 ≤ around_at e w n s i → bit_at r i ≡ 1
  pub only : (i : ℕ) → bit_at r i ≡ 1 → (bit_at v i ≡ 1) ⊎ ((i < 64) × (bit_at mask i ≡ 1) × (2 ≤ around_at e w n s i))
  pub more : v ≤ r
  pub fits : r < 2 ^ 64

-- Bit i is reached from a set bit of v along set bits of p, each next to the one before.
pub data Along (v p : ℕ) : ℕ → Type 0 where
  here : {i : ℕ} → bit_at v i ≡ 1 → Along v p i
  from_west : {i : ℕ} (k : ℕ) → i ≡ k + 1 → bit_at p i ≡ 1 → Along v p k → Along v p i
  from_east : {i : ℕ} (k : ℕ) → k ≡ i + 1 → bit_at p i ≡ 1 → Along v p k → Along v p i

-- r has the bits of v, and no other than those reached along p.
pub record Spread (v p r : ℕ) : Type 0 where
  pub kept : (i : ℕ) → bit_at v i ≡ 1 → bit_at r i ≡ 1
  pub only : (i : ℕ) → bit_at r i ≡ 1 → Along v p i
  pub more : v ≤ r
  pub fits : r < 2 ^ 64

-- p has bits only of the mask, with a set neighbour to the north or south.
pub record Beside (n s mask p : ℕ) : Type 0 where
  pub only : (i : ℕ) → bit_at p i ≡ 1 → (i < 64) × (bit_at mask i ≡ 1) × (1 ≤ bit_at n i + bit_at s i)

-- Some steps and spreads lead from the word v to the word r.
pub data Steps (n s u t mask v : ℕ) : ℕ → Type 0 where
  start : Steps n s u t mask v v
  next : {k r : ℕ} → Steps n s u t mask v k → Stepped k n s u t mask r → Steps n s u t mask v r
  run : {k p r : ℕ} → Steps n s u t mask v k → Beside n s mask p → Spread k p r → Steps n s u t mask v r

-- r is the word v grown until a step changes nothing.
pub record Filled (v n s u t mask r : ℕ) : Type 0 where
  pub steps : Steps n s u t mask v r
  pub still : Stepped r n s u t mask r
  pub more : v ≤ r
