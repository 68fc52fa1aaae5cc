-- Sweeps: how many it takes from the rocks to the closed crossings (document 02, request 10).
use Rattle.std.specs.Prelude.{◌↔◌, ℕ, zero, suc, ◌<◌}
use Rattle.field.specs.Map.{On, Near, Apart}
use Rattle.field.specs.Labels.{RockOn}

-- "Define a sweep: all crossings are judged together on the state before it, and those open ones
-- with two or more closed neighbours become closed." C has the closed crossings before it; these
-- are the ones after it.
pub data AfterSweep (w h : ℕ) (C : ℕ → ℕ → Type 0) (x y : ℕ) : Type 0 where
  stays : C x y → AfterSweep w h C x y
  closes : {a b c d : ℕ} → On w h x y → Near x y a b → Near x y c d → Apart a b c d → C a b → C c d → AfterSweep w h C x y

-- "... starting from the rocks alone": the closed crossings after n sweeps.
unfoldable pub State : (ℕ → ℕ → Type 0) → ℕ → ℕ → ℕ → ℕ → ℕ → Type 0
State R w h zero = RockOn R w h
State R w h (suc n) = AfterSweep w h (State R w h n)

-- The sweep after n others changes nothing.
abbrev pub Rests : (ℕ → ℕ → Type 0) → ℕ → ℕ → ℕ → Type 0
Rests R w h n = (x y : ℕ) → State R w h (suc n) x y ↔ State R w h n x y

-- "Report the sweeps that changed something, starting from the rocks alone." The first n sweeps
-- changed something, and the next one does not.
pub record Sweeps (R : ℕ → ℕ → Type 0) (w h n : ℕ) : Type 0 where
  pub rests : Rests R w h n
  pub changed : (m : ℕ) → m < n → ¬ Rests R w h m
