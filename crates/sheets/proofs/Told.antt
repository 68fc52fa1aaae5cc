-- What a test's answer tells, and that a map within the limit has a number of crossings that fits.
use mathlib.Core.Path.{◌≡◌, refl}
use mathlib.Core.Bool.{Bool, true, false}
use mathlib.Core.Logic.{◌↔◌}
use Prim.Native.Nat.{ℕ, ◌*◌, ◌<◌, ◌^◌}
use native.Mathlib.Omega.{arith}
use Rattle.field.specs.Map.{Sides}
use Rattle.field.specs.Limits.{crossings_few}

-- An answer is the truth of P: no where P fails, yes where it holds.
pub refused : {P : Type 0} → (P → ⊥) → ((false ≡ true) ↔ P)
refused n = (λ e. let z : ◌≡◌ {A = ℕ} 0 1 = cc in absurd (omega arith), λ p. absurd (n p))

pub accepted : {P : Type 0} → P → ((true ≡ true) ↔ P)
accepted p = (λ e. p, λ q. refl)

-- A test `!r` of such an answer: r is no, or it is yes.
pub told_no : {P : Type 0} {r : Bool} → ((r ≡ true) ↔ P) → r ≡ false → P → ⊥
told_no e n p = let z : ◌≡◌ {A = ℕ} 0 1 = cc (n, e.1 p) in omega arith

pub told_yes : {P : Type 0} {r : Bool} → ((r ≡ true) ↔ P) → r ≡ true → P
told_yes e y = e.0 y

-- A test `!r` that failed: the answer is not no.
pub yes_no : {r : Bool} → r ≡ true → r ≡ false → ⊥
yes_no y n = let z : ◌≡◌ {A = ℕ} 0 1 = cc (y, n) in omega arith

pub crossings_fit : {w h : ℕ} → Sides w h → h * w < 2 ^ 64
crossings_fit s = omega (arith, crossings_few s)
