-- The promises leave one outcome. Of the test: a yes has one westmost column and one southmost row,
-- and a no has none. Of the drive: the rows give one number, a number tells which refusal there
-- was, if any, and it leaves one region sheet, one route with its length, and one state.
use Rattle.std.specs.Prelude.{Option, None, Some, Result, ◌≡◌, refl, List, ℕ}
use Rattle.std.proofs.Common.{sym, ap, ap₂, ◌∙◌}
use Rattle.field.specs.Workings.Sheet.{Marked}
use Rattle.field.specs.declared.Place.{Place}
use Rattle.field.specs.declared.refusals.Refusal.{Refusal}
use Rattle.field.proofs.Geometry.LinesLaws.{lines_one, lines_yes}
use Rattle.calls.specs.Rules.{gives_one}
use Rattle.calls.specs.LinesCall.{lines_drive_rows}
use Rattle.calls.specs.OutcomeLaws.{lines_region_after_one, joined_after_one}
use Rattle.regions.specs.Told.{told_one}
use Rattle.meetings.specs.Promise.{Says, joined_length, Joins}

-- The test: one answer.
pub lines_one_outcome : (w h : ℕ) (C : ℕ → ℕ → Type 0) (sx sy dx dy : ℕ) (a b : Option Place) → Says w h C sx sy dx dy a → Says w h C sx sy dx dy b → a ≡ b
lines_one_outcome w h C sx sy dx dy None None p q = refl
lines_one_outcome w h C sx sy dx dy None (Some c) p q = absurd (p (lines_yes q))
lines_one_outcome w h C sx sy dx dy (Some c) None p q = absurd (q (lines_yes p))
lines_one_outcome w h C sx sy dx dy (Some c) (Some d) p q =
    let e = lines_one p q in
    let met : ℕ → ℕ → Option Place = λ x y. Some (record { x = x; y = y }) in
    ap₂ met e.0 e.1

-- Asking for the drive: one answer, one sheet, one route and one state.
pub join_one_outcome : {w h sx sy dx dy z z₁ z₂ : ℕ} {s g g₁ g₂ route route₁ route₂ : List ℕ} {r₁ r₂ : Result ℕ Refusal}
    → Joins w h s sx sy dx dy z g g₁ route route₁ z₁ r₁ → Joins w h s sx sy dx dy z g g₂ route route₂ z₂ r₂
    → (r₁ ≡ r₂) × (g₁ ≡ g₂) × (route₁ ≡ route₂) × (z₁ ≡ z₂)
join_one_outcome {w} {h} {sx} {sy} {dx} {dy} {s = s} {route = route} {r₁ = r₁} {r₂ = r₂} p q =
    let e = gives_one (lines_drive_rows w h (Marked s w h) sx sy dx dy route) _ _ p.given q.given in
    let t = joined_after_one e p.route_after q.route_after in
    (told_one r₁ r₂ (λ u v i j. sym (ap joined_length i) ∙ t.0 ∙ ap joined_length j) e, lines_region_after_one e p.region_after q.region_after, t.1, t.2)
