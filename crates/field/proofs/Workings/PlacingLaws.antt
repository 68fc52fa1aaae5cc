-- Working: a depot's four numbers from a sheet of the closed crossings; and that they are the four
-- numbers, the only ones there are.
use Rattle.std.specs.Prelude.{◌≡◌, refl, true, false, cond, List, ◌↔◌, ℕ, ◌+◌, ◌≤◌, ltb}
use Rattle.std.proofs.Common.{sym, ◌∙◌, true≢false, arith}
use Rattle.field.specs.declared.Placing.{Placing}
use Rattle.field.specs.Map.{On, gap, dist}
use Rattle.field.specs.Labels.{Open}
use Rattle.field.specs.Drives.{HasDrive}
use Rattle.field.specs.Depots.{all_zero, HowPlaced, depot_closed, depot_open}
use Rattle.field.specs.Workings.Tests.{cond_cases, only}
use Rattle.field.specs.Workings.Sheet.{Draws, lit}
use Rattle.field.proofs.Workings.Marks.{drawn_dec, drawn_looks}
use Rattle.field.specs.Workings.Looking.{open_of, assured_of}
use Rattle.field.proofs.Workings.AssuredLaws.{open_looks, assured_looks}
use Rattle.field.specs.Workings.Reaching.{reach}
use Rattle.field.proofs.Workings.ReachLaws.{reach_draws}
use Rattle.field.specs.Workings.Placing.{adds, total}
use Rattle.field.proofs.Workings.Placing.{total_sizes}
use Rattle.field.proofs.Geometry.DepotLaws.{placed_one}

-- No two crossings of the map are farther apart than its sides together.
unfoldable pub placed_of : List ℕ → ℕ → ℕ → ℕ → ℕ → Placing
placed_of s w h dx dy =
    let t = reach s w h dx dy (w + h) in
    cond (open_of s w h dx dy) (total w h (λ x y. adds (open_of s w h x y) (assured_of s w h dx dy x y) (ltb 0 (lit t w h x y)))) all_zero

dist_within : {w h x y a b : ℕ} → On w h x y → On w h a b → dist x y a b ≤ w + h
unfolding gap
dist_within o p = omega (arith, o.in_x, o.in_y, p.in_x, p.in_y)

module _ (w h : ℕ) (C : ℕ → ℕ → Type 0) (s : List ℕ) (D : Draws w h C s) (dx dy : ℕ) (on : On w h dx dy) where
  -- The sheet of reached crossings tells which have a shortest drive.
  reach_looks : (x y : ℕ) → Open w h C x y → (HasDrive w h C x y dx dy ↔ ltb 0 (lit (reach s w h dx dy (w + h)) w h x y) ≡ true)
  reach_looks x y o =
      let k = drawn_looks w h (λ x y. HasDrive w h C x y dx dy × (dist x y dx dy ≤ w + h)) _ (reach_draws w h C s D dx dy (w + h)) x y in
      (λ v. k.0 (v, dist_within o.on on), λ e. (k.1 e).0)

  closed_depot : open_of s w h dx dy ≡ false → Dec (C dx dy) → C dx dy
  closed_depot e (yes c) = c
  closed_depot e (no n) = absurd (true≢false (sym ((open_looks w h C s D dx dy).0 (record { on = on; free = n })) ∙ e))

  pub placed_made : HowPlaced w h C dx dy (placed_of s w h dx dy)
  unfolding placed_of
  placed_made =
      cond_cases (HowPlaced w h C dx dy) (open_of s w h dx dy)
      (λ e.
      depot_open ((open_looks w h C s D dx dy).1 e)
      (total_sizes w h C s D dx dy _ _ _ (λ x y o. open_looks w h C s D x y) (λ x y o. assured_looks w h C s D dx dy x y) reach_looks))
      (λ e. depot_closed (closed_depot e (drawn_dec w h C s D dx dy)) refl)

  pub placed_looks : (p : Placing) → (HowPlaced w h C dx dy p ↔ p ≡ placed_of s w h dx dy)
  placed_looks = only (HowPlaced w h C dx dy) (placed_of s w h dx dy) placed_made (λ p q. placed_one)
