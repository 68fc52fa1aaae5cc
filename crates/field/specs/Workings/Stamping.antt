-- Working: the sheet of a cart's rocks, from the list of the markers in use.
use Rattle.std.specs.Prelude.{Bool, false, ◌&&◌, ◌||◌, ltb}
use mathlib.Core.List.{List, [], ◌∷◌}
use Prim.Native.Nat.{ℕ}
use Rattle.std.proofs.Math.Dec.{eqb}
use Rattle.field.specs.declared.Marker.{Marker}
use Rattle.field.specs.Workings.Tests.{bit}
use Rattle.field.specs.Workings.Sheet.{sheet}

-- The marker stands on (x, y), and is higher than the clearance.
unfoldable pub stands : ℕ → Marker → ℕ → ℕ → Bool
stands clearance m x y = (eqb m.x x && eqb m.y y) && ltb clearance m.height

-- At least one marker of the list does.
unfoldable pub rock_of : ℕ → List Marker → ℕ → ℕ → Bool
rock_of clearance [] x y = false
rock_of clearance (m ∷ ms) x y = stands clearance m x y || rock_of clearance ms x y

unfoldable pub stamp : ℕ → ℕ → ℕ → List Marker → List ℕ
stamp w h clearance list = sheet w h (λ x y. bit (rock_of clearance list x y))
