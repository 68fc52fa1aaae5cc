-- Clearing has one outcome: there is a list that Cleared allows, made slot by slot, and any two
-- that it allows are equal, since it says what stands in each slot and the id stands in one slot
-- only.
use Rattle.std.specs.Prelude.{◌≡◌, List, ℕ, ◌+◌, ◌<◌, ◌≤◌, length}
use Rattle.std.proofs.Common.{sym, ap, ◌∙◌, arith, ext_get_or}
use Rattle.std.proofs.Math.Decide.{dec_lt}
use Rattle.std.proofs.Math.ListN.{get_or-eq_default}
use Rattle.field.specs.declared.Marker.{Marker}
use Rattle.field.specs.Labels.{blank}
use Rattle.markers.specs.List.{slot, InUse, Cleared}
use Rattle.markers.specs.Laws.Rising.{RisingIds, id_one}
use Rattle.markers.specs.Laws.Making.{slots, slots_size, slots_at, pick, pick_yes, pick_no}

-- What clearing leaves in slot k: below the place and past the count what stood there, in the slot
-- freed zeros, between them what stood one above.
cleared_slot : List Marker → ℕ → ℕ → ℕ → Marker
cleared_slot list count place k =
    pick (dec_lt k place) (slot list k) (pick (dec_lt (k + 1) count) (slot list (k + 1)) (pick (dec_lt k count) blank (slot list k)))

module _ (list : List Marker) (count place : ℕ) where
  slot_below : (k : ℕ) → k < place → cleared_slot list count place k ≡ slot list k
  unfolding cleared_slot
  slot_below k l = pick_yes _ _ _ l

  slot_above : (k : ℕ) → place ≤ k → k + 1 < count → cleared_slot list count place k ≡ slot list (k + 1)
  unfolding cleared_slot
  slot_above k l u = pick_no _ _ _ (omega arith) ∙ pick_yes _ _ _ u

  slot_freed : (k : ℕ) → place < count → k + 1 ≡ count → cleared_slot list count place k ≡ blank
  unfolding cleared_slot
  slot_freed k l e = pick_no _ _ _ (omega arith) ∙ pick_no _ _ _ (omega arith) ∙ pick_yes _ _ _ (omega arith)

  slot_past : (k : ℕ) → place < count → count ≤ k → cleared_slot list count place k ≡ slot list k
  unfolding cleared_slot
  slot_past k l u = pick_no _ _ _ (omega arith) ∙ pick_no _ _ _ (omega arith) ∙ pick_no _ _ _ (omega arith)

cleared_slot_lem : {list after : List Marker} {count id : ℕ} (c : Cleared list count id after) (k : ℕ)
    → slot after k ≡ cleared_slot list count c.place k
cleared_slot_lem {list} {after} {count} {id} c k = go (dec_lt k c.place) (dec_lt (k + 1) count) (dec_lt k count)
  where
    go : Dec (k < c.place) → Dec (k + 1 < count) → Dec (k < count) → slot after k ≡ cleared_slot list count c.place k
    go (yes p) q r = c.before k p ∙ sym (slot_below list count c.place k p)
    go (no p) (yes q) r = c.moved k (omega arith) q ∙ sym (slot_above list count c.place k (omega arith) q)
    go (no p) (no q) (yes r) = c.freed k (omega arith) ∙ sym (slot_freed list count c.place k c.below (omega arith))
    go (no p) (no q) (no r) = c.rest k (omega arith) ∙ sym (slot_past list count c.place k c.below (omega arith))

pub cleared_one : {list a b : List Marker} {count id : ℕ} → RisingIds list count → Cleared list count id a → Cleared list count id b → a ≡ b
cleared_one {list} {a} {b} {count} {id} r p q =
    ext_get_or blank a b (p.size ∙ sym q.size)
    (λ k l. cleared_slot_lem p k ∙ ap (λ (i : ℕ). cleared_slot list count i k) same ∙ sym (cleared_slot_lem q k))
  where
    same : p.place ≡ q.place
    same = id_one list count r p.place q.place p.below q.below (p.is ∙ sym q.is)

pub cleared_some : {list : List Marker} {count id : ℕ} → count ≤ length list → InUse list count id
    → (after : List Marker) × Cleared list count id after
cleared_some {list} {count} {id} lent u = (after, made)
  where
    from : ℕ → Marker
    from = cleared_slot list count u.place

    after : List Marker
    after = slots (length list) from

    there : (k : ℕ) → k < length list → slot after k ≡ from k
    there k l = slots_at (length list) from k l

    past : (k : ℕ) → count ≤ k → Dec (k < length list) → slot after k ≡ slot list k
    past k l (yes m) = there k m ∙ slot_past list count u.place k u.below l
    past k l (no m) =
        get_or-eq_default after blank (omega (arith, slots_size (length list) from)) ∙ sym (get_or-eq_default list blank (omega arith))

    made : Cleared list count id after
    made =
        record {
          place = u.place;
          below = u.below;
          is = u.is;
          size = slots_size (length list) from;
          before = λ k l. there k (omega (arith, u.below)) ∙ slot_below list count u.place k l;
          moved = λ k l m. there k (omega arith) ∙ slot_above list count u.place k l m;
          freed = λ k e. there k (omega arith) ∙ slot_freed list count u.place k u.below e;
          rest = λ k l. past k l (dec_lt k (length list));
        }
