-- The promise leaves one outcome: the rows give one number, a number tells which refusal there was,
-- if any, and it leaves one region sheet, one route with its length, and one state.
use Rattle.std.specs.Prelude.{◌≡◌, ℕ, List, Result}
use Rattle.std.proofs.Common.{sym, ap, ◌∙◌}
use Rattle.field.specs.Workings.Sheet.{Marked}
use Rattle.field.specs.declared.refusals.Refusal.{Refusal}
use Rattle.calls.specs.Rules.{gives_one, drive_rows}
use Rattle.calls.specs.OutcomeLaws.{region_after_one, route_after_one}
use Rattle.regions.specs.Told.{told_one}
use Rattle.drives.specs.Promise.{made_length, Makes}

-- Asking for a drive: one answer, one sheet, one route and one state.
pub fill_one_outcome : {w h sx sy dx dy z z₁ z₂ : ℕ} {s g g₁ g₂ route route₁ route₂ : List ℕ} {r₁ r₂ : Result ℕ Refusal}
    → Makes w h s sx sy dx dy z g g₁ route route₁ z₁ r₁ → Makes w h s sx sy dx dy z g g₂ route route₂ z₂ r₂
    → (r₁ ≡ r₂) × (g₁ ≡ g₂) × (route₁ ≡ route₂) × (z₁ ≡ z₂)
fill_one_outcome {w} {h} {sx} {sy} {dx} {dy} {s = s} {route = route} {r₁ = r₁} {r₂ = r₂} p q =
    let e = gives_one (drive_rows w h (Marked s w h) sx sy dx dy route) _ _ p.given q.given in
    let t = route_after_one e p.route_after q.route_after in
    (told_one r₁ r₂ (λ u v i j. sym (ap made_length i) ∙ t.0 ∙ ap made_length j) e, region_after_one e p.region_after q.region_after, t.1, t.2)
