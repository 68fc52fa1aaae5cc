-- Entering a marker of the map with a new id, where there is a slot, and clearing an id in use keep
-- a list well formed.
use Rattle.std.specs.Prelude.{◌≡◌, List, ◌⊎◌, ℕ, ◌+◌, ◌-◌, ◌<◌, ◌≤◌, length}
use Rattle.std.proofs.Common.{sym, subst, ap, ◌∙◌, inl, inr, arith}
use Rattle.std.proofs.Math.Decide.{dec_lt, ℕ_discrete}
use Rattle.field.specs.declared.Marker.{Marker}
use Rattle.field.specs.Map.{On, most_markers}
use Rattle.markers.specs.List.{slot, WellFormed, Entered, Cleared}
use Rattle.markers.specs.Laws.Rising.{Rises, rises_lt}
use Rattle.markers.proofs.Laws.Moves.{SlotOf, entered_above, entered_from, cleared_from}

-- The ids of a list's slots.
abbrev ids : List Marker → ℕ → ℕ
ids list k = (slot list k).id

id_same : {m n : Marker} → m ≡ n → m.id ≡ n.id
id_same e = ap (λ (m : Marker). m.id) e

module _ {list after : List Marker} {count : ℕ} {m : Marker} (e : Entered list count m after) where
  -- What holds of every marker in use and of the one entered holds of every marker in use after.
  pub entered_each : (P : Marker → Type 0) → ((k : ℕ) → k < count → P (slot list k)) → P m → (k : ℕ) → k < count + 1 → P (slot after k)
  entered_each P all here k l = go (entered_from e k l)
    where
      go : SlotOf list count (slot after k) ⊎ (slot after k ≡ m) → P (slot after k)
      go (inl s) = subst P s.is (all s.place s.below)
      go (inr s) = subst P (sym s) here

  pub entered_rises : Rises (ids list) count → Rises (ids after) (count + 1)
  entered_rises r k l = go (dec_lt (k + 1) e.place) (dec_lt k e.place) (ℕ_discrete k e.place)
    where
      next : (k : ℕ) → k + 1 ≡ e.place → slot after (k + 1) ≡ m
      next k q = ap (slot after) q ∙ e.put

      go : Dec (k + 1 < e.place) → Dec (k < e.place) → Dec (k ≡ e.place) → ids after k < ids after (k + 1)
      go (yes p) q s =
          omega (arith, id_same (e.before k (omega arith)), id_same (e.before (k + 1) p), r k (omega (arith, e.within)))
      go (no p) (yes q) s = omega (arith, id_same (e.before k q), id_same (next k (omega arith)), e.lower k q)
      go (no p) (no q) (yes s) =
          omega
          (arith, id_same (ap (slot after) s ∙ e.put), id_same (e.moved k (omega arith) (omega arith)), e.higher k (omega arith) (omega arith))
      go (no p) (no q) (no s) =
          let j : ℕ = k - 1 in
          omega (
            arith,
            id_same (entered_above e k (omega arith) (omega arith)),
            id_same (e.moved k (omega arith) (omega arith)),
            rises_lt (ids list) count r j k (omega arith) (omega arith),
          )

pub entered_formed : (w h : ℕ) {list after : List Marker} {count : ℕ} {m : Marker} → WellFormed w h list count → Entered list count m after
    → 1 ≤ m.id → On w h m.x m.y → count < length list → count < most_markers → WellFormed w h after (count + 1)
entered_formed w h {list} {after} {count} {m} f e i o room few =
    record {
      few = omega arith;
      lent = omega (arith, e.size);
      some_id = entered_each e (λ (n : Marker). 1 ≤ n.id) f.some_id i;
      on = entered_each e (λ (n : Marker). On w h n.x n.y) f.on o;
      rising = entered_rises e f.rising;
    }

module _ {list after : List Marker} {count next id : ℕ} (c : Cleared list count id after) (n : next + 1 ≡ count) where
  -- What holds of every marker in use holds of every marker in use after.
  pub cleared_each : (P : Marker → Type 0) → ((k : ℕ) → k < count → P (slot list k)) → (k : ℕ) → k < next → P (slot after k)
  cleared_each P all k l = let s = cleared_from c n k l in subst P s.is (all s.place s.below)

  pub cleared_rises : Rises (ids list) count → Rises (ids after) next
  cleared_rises r k l = go (dec_lt (k + 1) c.place) (dec_lt k c.place)
    where
      go : Dec (k + 1 < c.place) → Dec (k < c.place) → ids after k < ids after (k + 1)
      go (yes p) q = omega (arith, id_same (c.before k (omega arith)), id_same (c.before (k + 1) p), r k (omega arith))
      go (no p) (yes q) =
          omega (
            arith,
            id_same (c.before k q),
            id_same (c.moved (k + 1) (omega arith) (omega arith)),
            rises_lt (ids list) count r k (k + 1 + 1) (omega arith) (omega arith),
          )
      go (no p) (no q) =
          omega (
            arith,
            id_same (c.moved k (omega arith) (omega arith)),
            id_same (c.moved (k + 1) (omega arith) (omega arith)),
            r (k + 1) (omega arith),
          )

pub cleared_formed : (w h : ℕ) {list after : List Marker} {count next id : ℕ} → WellFormed w h list count → Cleared list count id after
    → next + 1 ≡ count → WellFormed w h after next
cleared_formed w h {list} {after} {count} {next} {id} f c n =
    record {
      few = omega (arith, f.few);
      lent = omega (arith, f.lent, c.size);
      some_id = cleared_each c n (λ (k : Marker). 1 ≤ k.id) f.some_id;
      on = cleared_each c n (λ (k : Marker). On w h k.x k.y) f.on;
      rising = cleared_rises c n f.rising;
    }
