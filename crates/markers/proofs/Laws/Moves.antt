-- Where the markers go. Entering moves each marker in use to a slot in use and adds the one
-- entered; clearing moves each marker in use, but the one cleared, to a slot in use; and nothing
-- else stands in a slot in use.
use Rattle.std.specs.Prelude.{◌≡◌, List, ◌⊎◌, ℕ, ◌+◌, ◌-◌, ◌<◌}
use Rattle.std.proofs.Common.{sym, ap, ◌∙◌, inl, inr, arith}
use Rattle.std.proofs.Math.Decide.{dec_lt, ℕ_discrete}
use Rattle.field.specs.declared.Marker.{Marker}
use Rattle.markers.specs.List.{slot, Entered, Cleared}

-- m stands in a slot in use.
pub record SlotOf (list : List Marker) (count : ℕ) (m : Marker) : Type 0 where
  pub place : ℕ
  pub below : place < count
  pub is : slot list place ≡ m

-- m stands in a slot in use other than the one at `gone`.
pub record OtherOf (list : List Marker) (count gone : ℕ) (m : Marker) : Type 0 where
  pub place : ℕ
  pub below : place < count
  pub other : ¬ (place ≡ gone)
  pub is : slot list place ≡ m

module _ {list after : List Marker} {count : ℕ} {m : Marker} (e : Entered list count m after) where
  -- The marker that moved up to slot k.
  pub entered_above : (k : ℕ) → e.place < k → k < count + 1 → slot after k ≡ slot list (k - 1)
  entered_above k l n = ap (slot after) (up k l) ∙ e.moved (k - 1) (omega arith) (omega arith)
    where
      up : (i : ℕ) → e.place < i → i ≡ i - 1 + 1
      up i q = omega arith

  pub entered_from : (k : ℕ) → k < count + 1 → SlotOf list count (slot after k) ⊎ (slot after k ≡ m)
  entered_from k l = go (dec_lt k e.place) (ℕ_discrete k e.place)
    where
      go : Dec (k < e.place) → Dec (k ≡ e.place) → SlotOf list count (slot after k) ⊎ (slot after k ≡ m)
      go (yes p) q = inl (record { place = k; below = omega (arith, e.within); is = sym (e.before k p) })
      go (no p) (yes q) = inr (ap (slot after) q ∙ e.put)
      go (no p) (no q) =
          let s : e.place < k = omega arith in
          inl (record { place = k - 1; below = omega arith; is = sym (entered_above k s l) })

  pub entered_to : (k : ℕ) → k < count → SlotOf after (count + 1) (slot list k)
  entered_to k l = go (dec_lt k e.place)
    where
      go : Dec (k < e.place) → SlotOf after (count + 1) (slot list k)
      go (yes p) = record { place = k; below = omega arith; is = e.before k p }
      go (no p) = record { place = k + 1; below = omega arith; is = e.moved k (omega arith) l }

  pub entered_there : SlotOf after (count + 1) m
  entered_there = record { place = e.place; below = omega (arith, e.within); is = e.put }

module _ {list after : List Marker} {count next id : ℕ} (c : Cleared list count id after) (n : next + 1 ≡ count) where
  pub cleared_from : (k : ℕ) → k < next → OtherOf list count c.place (slot after k)
  cleared_from k l = go (dec_lt k c.place)
    where
      go : Dec (k < c.place) → OtherOf list count c.place (slot after k)
      go (yes p) = record { place = k; below = omega arith; other = omega arith; is = sym (c.before k p) }
      go (no p) = record { place = k + 1; below = omega arith; other = omega arith; is = sym (c.moved k (omega arith) (omega arith)) }

  pub cleared_to : (k : ℕ) → k < count → ¬ (k ≡ c.place) → SlotOf after next (slot list k)
  cleared_to k l d = go (dec_lt k c.place)
    where
      down : (i : ℕ) → c.place < i → i - 1 + 1 ≡ i
      down i q = omega arith

      go : Dec (k < c.place) → SlotOf after next (slot list k)
      go (yes p) = record { place = k; below = omega (arith, c.below); is = c.before k p }
      go (no p) =
          let s : c.place < k = omega arith in
          record { place = k - 1; below = omega arith; is = c.moved (k - 1) (omega arith) (omega arith) ∙ ap (slot list) (down k s) }
