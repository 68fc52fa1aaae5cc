-- Entering has one outcome: there is a list that Entered allows, made slot by slot, and any two
-- that it allows are equal, since it says what stands in each slot and the ids settle the place.
use Rattle.std.specs.Prelude.{◌≡◌, refl, List, ℕ, zero, suc, ◌+◌, ◌-◌, ◌<◌, ◌≤◌, length}
use Rattle.std.proofs.Common.{sym, ap, ◌∙◌, arith, ext_get_or}
use Rattle.std.proofs.Math.Decide.{dec_lt, ℕ_discrete}
use Rattle.std.proofs.Math.ListN.{get_or-eq_default}
use Rattle.field.specs.declared.Marker.{Marker}
use Rattle.field.specs.Labels.{blank}
use Rattle.markers.specs.List.{slot, InUse, Entered}
use Rattle.markers.specs.Laws.Rising.{RisingIds, rises_lt}
use Rattle.markers.proofs.Laws.Moves.{entered_above}
use Rattle.markers.specs.Laws.Making.{slots, slots_size, slots_at, pick, pick_yes, pick_no}

-- What entering leaves in slot k: below the place and past the count what stood there, at the place
-- the marker, between them what stood one below.
entered_slot : List Marker → ℕ → Marker → ℕ → ℕ → Marker
entered_slot list count m place k =
    pick (dec_lt k place) (slot list k) (pick (ℕ_discrete k place) m (pick (dec_lt count k) (slot list k) (slot list (k - 1))))

module _ (list : List Marker) (count : ℕ) (m : Marker) (place : ℕ) where
  slot_below : (k : ℕ) → k < place → entered_slot list count m place k ≡ slot list k
  unfolding entered_slot
  slot_below k l = pick_yes _ _ _ l

  slot_there : (k : ℕ) → k ≡ place → entered_slot list count m place k ≡ m
  unfolding entered_slot
  slot_there k e = pick_no _ _ _ (omega arith) ∙ pick_yes _ _ _ e

  slot_past : (k : ℕ) → place ≤ count → count < k → entered_slot list count m place k ≡ slot list k
  unfolding entered_slot
  slot_past k w l = pick_no _ _ _ (omega arith) ∙ pick_no _ _ _ (omega arith) ∙ pick_yes _ _ _ l

  slot_above : (k : ℕ) → place < k → k < count + 1 → entered_slot list count m place k ≡ slot list (k - 1)
  unfolding entered_slot
  slot_above k l u = pick_no _ _ _ (omega arith) ∙ pick_no _ _ _ (omega arith) ∙ pick_no _ _ _ (omega arith)

entered_slot_lem : {list after : List Marker} {count : ℕ} {m : Marker} (e : Entered list count m after) (k : ℕ)
    → slot after k ≡ entered_slot list count m e.place k
entered_slot_lem {list} {after} {count} {m} e k = go (dec_lt k e.place) (ℕ_discrete k e.place) (dec_lt count k)
  where
    go : Dec (k < e.place) → Dec (k ≡ e.place) → Dec (count < k) → slot after k ≡ entered_slot list count m e.place k
    go (yes p) q r = e.before k p ∙ sym (slot_below list count m e.place k p)
    go (no p) (yes q) r = ap (slot after) q ∙ e.put ∙ sym (slot_there list count m e.place k q)
    go (no p) (no q) (yes r) = e.rest k r ∙ sym (slot_past list count m e.place k e.within r)
    go (no p) (no q) (no r) = entered_above e k (omega arith) (omega arith) ∙ sym (slot_above list count m e.place k (omega arith) (omega arith))

-- All ids below the place are lower than the one entered and all from it on higher: so there is one
-- such place.
entered_place : {list a b : List Marker} {count : ℕ} {m : Marker} (p : Entered list count m a) (q : Entered list count m b) → p.place ≤ q.place
entered_place {m = m} p q = go (dec_lt q.place p.place)
  where
    go : Dec (q.place < p.place) → p.place ≤ q.place
    go (yes l) = absurd (omega (arith, p.lower q.place l, q.higher q.place (omega arith) (omega (arith, p.within))))
    go (no l) = omega arith

pub entered_one : {list a b : List Marker} {count : ℕ} {m : Marker} → Entered list count m a → Entered list count m b → a ≡ b
entered_one {list} {a} {b} {count} {m} p q =
    ext_get_or blank a b (p.size ∙ sym q.size)
    (λ k l. entered_slot_lem p k ∙ ap (λ (i : ℕ). entered_slot list count m i k) same ∙ sym (entered_slot_lem q k))
  where
    same : p.place ≡ q.place
    same = omega (arith, entered_place p q, entered_place q p)

-- The place by id of an id that is not in use.
record Belongs (list : List Marker) (count id : ℕ) : Type 0 where
  place : ℕ
  within : place ≤ count
  lower : (k : ℕ) → k < place → (slot list k).id < id
  higher : (k : ℕ) → place ≤ k → k < count → id < (slot list k).id

belongs : (list : List Marker) (count id : ℕ) → RisingIds list count → ¬ InUse list count id → (n : ℕ) → n ≤ count → Belongs list n id
belongs list count id r new zero l =
    record { place = 0; within = omega arith; lower = λ k m. absurd (omega arith); higher = λ k m n. absurd (omega arith) }
belongs list count id r new (suc n) l = go (dec_lt (slot list n).id id) (belongs list count id r new n (omega arith))
  where
    fresh : (k : ℕ) → k < count → ¬ ((slot list k).id ≡ id)
    fresh k m e = new (record { place = k; below = m; is = e })

    under : (k : ℕ) → k < suc n → (slot list n).id < id → Dec (k < n) → (slot list k).id < id
    under k m p (yes q) = omega (arith, rises_lt (λ j. (slot list j).id) count r k n q l)
    under k m p (no q) = let e : k ≡ n = omega arith in omega (arith, ap (λ (j : ℕ). (slot list j).id) e)

    over : (b : Belongs list n id) (k : ℕ) → b.place ≤ k → k < suc n → id ≤ (slot list n).id → Dec (k < n) → id < (slot list k).id
    over b k m u p (yes q) = b.higher k m q
    over b k m u p (no q) = let e : k ≡ n = omega arith in omega (arith, ap (λ (j : ℕ). (slot list j).id) e, fresh n l)

    go : Dec ((slot list n).id < id) → Belongs list n id → Belongs list (suc n) id
    go (yes p) b =
        record {
          place = suc n;
          within = omega arith;
          lower = λ k m. under k m p (dec_lt k n);
          higher = λ k m u. absurd (omega arith);
        }
    go (no p) b =
        record {
          place = b.place;
          within = omega (arith, b.within);
          lower = b.lower;
          higher = λ k m u. over b k m u (omega arith) (dec_lt k n);
        }

pub entered_some : {list : List Marker} {count : ℕ} (m : Marker) → RisingIds list count → ¬ InUse list count m.id
    → count < length list → (after : List Marker) × Entered list count m after
entered_some {list} {count} m r new room = (after, made)
  where
    b : Belongs list count m.id
    b = belongs list count m.id r new count (omega arith)

    from : ℕ → Marker
    from = entered_slot list count m b.place

    after : List Marker
    after = slots (length list) from

    there : (k : ℕ) → k < length list → slot after k ≡ from k
    there k l = slots_at (length list) from k l

    past : (k : ℕ) → count < k → Dec (k < length list) → slot after k ≡ slot list k
    past k l (yes u) = there k u ∙ slot_past list count m b.place k b.within l
    past k l (no u) =
        get_or-eq_default after blank (omega (arith, slots_size (length list) from)) ∙ sym (get_or-eq_default list blank (omega arith))

    made : Entered list count m after
    made =
        record {
          place = b.place;
          within = b.within;
          lower = b.lower;
          higher = b.higher;
          size = slots_size (length list) from;
          before = λ k l. there k (omega (arith, b.within)) ∙ slot_below list count m b.place k l;
          put = there b.place (omega (arith, b.within)) ∙ slot_there list count m b.place b.place refl;
          moved = λ k l u.
              there (k + 1) (omega arith) ∙ slot_above list count m b.place (k + 1) (omega arith) (omega arith) ∙ ap (slot list) (back k);
          rest = λ k l. past k l (dec_lt k (length list));
        }
      where
        back : (i : ℕ) → i + 1 - 1 ≡ i
        back i = omega arith
