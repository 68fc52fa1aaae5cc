-- The promise leaves one outcome: the rows give one number, a number tells which refusal there was,
-- if any, and it leaves one sheet.
use Rattle.std.specs.Prelude.{◌≡◌, refl, List, ℕ, Result}
use Rattle.field.specs.Workings.Sheet.{Marked}
use Rattle.field.specs.declared.refusals.Refusal.{Refusal}
use Rattle.calls.specs.Rules.{gives_one, region_rows}
use Rattle.calls.specs.OutcomeLaws.{region_after_one}
use Rattle.regions.specs.Promise.{Regioned}
use Rattle.regions.specs.Told.{told_one}

-- Asking for the region: one answer, and one sheet.
pub region_one_outcome : {w h sx sy dx dy : ℕ} {s g g₁ g₂ : List ℕ} {r₁ r₂ : Result (Unit {0}) Refusal} → Regioned w h s sx sy dx dy g g₁ r₁
    → Regioned w h s sx sy dx dy g g₂ r₂ → (r₁ ≡ r₂) × (g₁ ≡ g₂)
region_one_outcome {w} {h} {sx} {sy} {dx} {dy} {s} {r₁ = r₁} {r₂ = r₂} p q =
    let e = gives_one (region_rows w h (Marked s w h) sx sy dx dy) _ _ p.given q.given in
    (told_one r₁ r₂ (λ u v i j. refl) e, region_after_one e p.region_after q.region_after)
