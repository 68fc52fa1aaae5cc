-- The sheet of a cart's rocks draws the crossings on which a marker stands that stops the cart.
use Rattle.std.specs.Prelude.{◌≡◌, true, ◌&&◌, ltb, length, get_or}
use Rattle.std.proofs.lemmas.Bool.{false≢true}
use mathlib.Core.List.{List, [], ◌∷◌}
use Prim.Native.Nat.{ℕ, zero, suc, ◌<◌}
use Rattle.std.proofs.Common.{arith}
use Rattle.std.proofs.Math.Dec.{eqb}
use borrow.Author.Tests.{ltb-true, lt-ltb, eqb-true, eq-eqb}
use Rattle.field.specs.declared.Marker.{Marker}
use Rattle.field.specs.Labels.{Rock, RockOn, blank}
use Rattle.field.specs.Workings.Tests.{bit, bit_true, true_bit, and_split, and_both, or_case, or_left, or_right}
use Rattle.field.specs.Workings.Sheet.{Draws}
use Rattle.field.proofs.Workings.Marks.{sheet_draws}
use Rattle.field.specs.Workings.Stamping.{stands, rock_of, stamp}

module _ (clearance : ℕ) where
  stands_there : (m : Marker) (x y : ℕ) → stands clearance m x y ≡ true → (m.x ≡ x) × (m.y ≡ y) × (clearance < m.height)
  unfolding stands
  stands_there m x y e =
      let f = and_split _ _ e in
      let g = and_split _ _ f.0 in
      (eqb-true _ _ g.0, eqb-true _ _ g.1, ltb-true _ _ f.1)

  there_stands : (m : Marker) (x y : ℕ) → m.x ≡ x → m.y ≡ y → clearance < m.height → stands clearance m x y ≡ true
  unfolding stands
  there_stands m x y p q l =
      and_both (eqb m.x x && eqb m.y y) (ltb clearance m.height)
      (and_both (eqb m.x x) (eqb m.y y) (eq-eqb _ _ p) (eq-eqb _ _ q)) (lt-ltb _ _ l)

  pub rock_of_lem : (list : List Marker) (x y : ℕ) → rock_of clearance list x y ≡ true → Rock clearance list x y
  unfolding rock_of
  rock_of_lem [] x y e = absurd (false≢true e)
  rock_of_lem (m ∷ ms) x y e =
      or_case (stands clearance m x y) (rock_of clearance ms x y)
      (λ t. let s = stands_there m x y t in record { slot = 0; in_use = omega arith; x_is = s.0; y_is = s.1; stops = s.2 })
      (λ t.
      let r = rock_of_lem ms x y t in
      record { slot = suc r.slot; in_use = omega (arith, r.in_use); x_is = r.x_is; y_is = r.y_is; stops = r.stops }) e

  rock_slot : (list : List Marker) (x y k : ℕ) → k < length list → (get_or list k blank).x ≡ x → (get_or list k blank).y ≡ y
      → clearance < (get_or list k blank).height → rock_of clearance list x y ≡ true
  unfolding rock_of
  rock_slot [] x y k l p q s = absurd (omega arith)
  rock_slot (m ∷ ms) x y zero l p q s = or_left (stands clearance m x y) (rock_of clearance ms x y) (there_stands m x y p q s)
  rock_slot (m ∷ ms) x y (suc k) l p q s =
      or_right (stands clearance m x y) (rock_of clearance ms x y) (rock_slot ms x y k (omega arith) p q s)

  pub of_rock : (list : List Marker) (x y : ℕ) → Rock clearance list x y → rock_of clearance list x y ≡ true
  of_rock list x y r = rock_slot list x y r.slot r.in_use r.x_is r.y_is r.stops

  -- The stamped sheet draws the rocks of the map; several markers on one crossing make one mark.
  pub stamp_draws : (w h : ℕ) (list : List Marker) → Draws w h (RockOn (Rock clearance list) w h) (stamp w h clearance list)
  unfolding stamp
  stamp_draws w h list =
      sheet_draws w h (RockOn (Rock clearance list) w h) (λ x y. bit (rock_of clearance list x y))
      (λ x y o l. record { on = o; stone = rock_of_lem list x y (bit_true _ l) })
      (λ x y r. (r.on, true_bit (of_rock list x y r.stone)))
