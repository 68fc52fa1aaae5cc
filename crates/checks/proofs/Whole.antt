-- The whole list: what the working finds is what the meaning says.
use mathlib.Core.Path.{◌≡◌}
use mathlib.Core.List.{List}
use Prim.Native.Nat.{ℕ}
use Rattle.field.specs.Checks.{Finding, Finds}
use Rattle.field.specs.Map.{On}
use Rattle.field.specs.Workings.Sheet.{Marked, marked_draws}
use Rattle.field.specs.Workings.Checking.{check_of}
use Rattle.field.proofs.Workings.CheckLaws.{checked}

pub finding : {w h sx sy : ℕ} {s : List ℕ} (dx dy : ℕ) (l : List ℕ) → On w h sx sy → {f : Finding}
    → check_of s w h sx sy dx dy l ≡ f → Finds w h (Marked s w h) sx sy dx dy l f
finding {w} {h} {sx} {sy} {s} dx dy l on e = rw (← e) (checked w h (Marked s w h) sx sy dx dy l s (marked_draws w h s) on)
