-- Entering adds the rock of the marker entered, if it is one; clearing takes one away only where no
-- other marker makes it one.
use Rattle.std.specs.Prelude.{◌≡◌, List, ◌⊎◌, ◌↔◌, ℕ, ◌+◌, ◌<◌, ◌≤◌, length}
use Rattle.std.proofs.Common.{sym, ap, ◌∙◌, inl, inr, arith, length-take, get_or-take}
use Rattle.field.specs.declared.Marker.{Marker}
use Rattle.field.specs.Labels.{Rock, blank}
use Rattle.markers.specs.List.{slot, WellFormed, Entered, Cleared, in_use_of}
use Rattle.markers.specs.Laws.Rising.{RisingIds, id_one}
use Rattle.markers.proofs.Laws.Moves.{SlotOf, entered_from, entered_to, entered_there, cleared_from, cleared_to}
use Rattle.markers.specs.Laws.Rocks.{Stands, Over, RockOrNew, OtherStands}

module _ (clearance : ℕ) where
  pub rock_stands : (list : List Marker) (count x y : ℕ) → Rock clearance (in_use_of list count) x y → Stands (Over clearance) list count x y
  rock_stands list count x y r =
      record {
        place = r.slot;
        below = low;
        x_is = ap (λ (m : Marker). m.x) there ∙ r.x_is;
        y_is = ap (λ (m : Marker). m.y) there ∙ r.y_is;
        such = omega (arith, r.stops, ap (λ (m : Marker). m.height) there);
      }
    where
      low : r.slot < count
      low = omega (arith, r.in_use, length-take count list)

      there : slot list r.slot ≡ slot (in_use_of list count) r.slot
      there = sym (get_or-take count list r.slot blank low)

  pub stands_rock : (list : List Marker) (count x y : ℕ) → count ≤ length list → Stands (Over clearance) list count x y
      → Rock clearance (in_use_of list count) x y
  stands_rock list count x y l s =
      record {
        slot = s.place;
        in_use = omega (arith, s.below, length-take count list);
        x_is = ap (λ (m : Marker). m.x) there ∙ s.x_is;
        y_is = ap (λ (m : Marker). m.y) there ∙ s.y_is;
        stops = omega (arith, s.such, ap (λ (m : Marker). m.height) there);
      }
    where
      there : slot (in_use_of list count) s.place ≡ slot list s.place
      there = get_or-take count list s.place blank s.below

  -- What a slot holds stands where it stands.
  slot_stands : {list : List Marker} {count x y : ℕ} {m : Marker} → SlotOf list count m → m.x ≡ x → m.y ≡ y → clearance < m.height
      → Stands (Over clearance) list count x y
  slot_stands s p q l =
      record {
        place = s.place;
        below = s.below;
        x_is = ap (λ (m : Marker). m.x) s.is ∙ p;
        y_is = ap (λ (m : Marker). m.y) s.is ∙ q;
        such = omega (arith, l, ap (λ (m : Marker). m.height) s.is);
      }

pub rock_enter : (clearance : ℕ) {list after : List Marker} {count : ℕ} {m : Marker} (x y : ℕ) → count < length list → Entered list count m after
    → Rock clearance (in_use_of after (count + 1)) x y ↔ RockOrNew clearance list count m x y
rock_enter clearance {list} {after} {count} {m} x y room e = (λ r. from (rock_stands clearance after (count + 1) x y r), to)
  where
    from : Stands (Over clearance) after (count + 1) x y → RockOrNew clearance list count m x y
    from s = go (entered_from e s.place s.below)
      where
        go : SlotOf list count (slot after s.place) ⊎ (slot after s.place ≡ m) → RockOrNew clearance list count m x y
        go (inl o) = inl (stands_rock clearance list count x y (omega arith) (slot_stands clearance o s.x_is s.y_is s.such))
        go (inr q) =
            inr (
              sym (ap (λ (n : Marker). n.x) q) ∙ s.x_is,
              sym (ap (λ (n : Marker). n.y) q) ∙ s.y_is,
              omega (arith, s.such, ap (λ (n : Marker). n.height) q),
            )

    rock : Stands (Over clearance) after (count + 1) x y → Rock clearance (in_use_of after (count + 1)) x y
    rock s = stands_rock clearance after (count + 1) x y (omega (arith, e.size)) s

    to : RockOrNew clearance list count m x y → Rock clearance (in_use_of after (count + 1)) x y
    to (inl r) =
        let s = rock_stands clearance list count x y r in
        rock (slot_stands clearance (entered_to e s.place s.below) s.x_is s.y_is s.such)
    to (inr q) = rock (slot_stands clearance (entered_there e) q.0 q.1 q.2)

module _ (clearance : ℕ) {list after : List Marker} {count id : ℕ} (next x y : ℕ) (lent : count ≤ length list) (c : Cleared list count id after)
    (n : next + 1 ≡ count) where
  -- Of two markers on one crossing that stop the cart, clearing one leaves the rock.
  pub rock_clear_other : OtherStands clearance list count id x y → Rock clearance (in_use_of after next) x y
  rock_clear_other s =
      stands_rock clearance after next x y (omega (arith, c.size))
      (slot_stands clearance (cleared_to c n s.place s.below apart) s.x_is s.y_is s.stops)
    where
      apart : ¬ (s.place ≡ c.place)
      apart q = s.other (ap (λ (k : ℕ). (slot list k).id) q ∙ c.is)

  -- Every rock after clearing has a marker of another id on it, since ids rise and no other marker
  -- bears the one cleared.
  pub rock_clear_from : RisingIds list count → Rock clearance (in_use_of after next) x y → OtherStands clearance list count id x y
  rock_clear_from r k = go (rock_stands clearance after next x y k)
    where
      go : Stands (Over clearance) after next x y → OtherStands clearance list count id x y
      go s =
          let o = cleared_from c n s.place s.below in
          record {
            place = o.place;
            below = o.below;
            other = λ q. o.other (id_one list count r o.place c.place o.below c.below (q ∙ sym c.is));
            x_is = ap (λ (m : Marker). m.x) o.is ∙ s.x_is;
            y_is = ap (λ (m : Marker). m.y) o.is ∙ s.y_is;
            stops = omega (arith, s.such, ap (λ (m : Marker). m.height) o.is);
          }

-- The rocks after clearing: the crossings on which another marker stands that stops the cart.
pub rock_clear : (clearance w h : ℕ) {list after : List Marker} {count id : ℕ} (next x y : ℕ) → WellFormed w h list count → Cleared list count id after
    → next + 1 ≡ count → Rock clearance (in_use_of after next) x y ↔ OtherStands clearance list count id x y
rock_clear clearance w h next x y f c n =
    (rock_clear_from clearance next x y f.lent c n f.rising, rock_clear_other clearance next x y f.lent c n)
