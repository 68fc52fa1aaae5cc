-- An id looked for among those in use: they rise, so the lower ones come first, and it is in use only
-- where the marker that stands in its place has it.
use Rattle.std.proofs.Common.{◌≡◌, ap, ◌∙◌, true, false, List, ℕ, ◌<◌, ◌≤◌, length, take, get_or, arith}
use Rattle.std.proofs.Math.Dec.{ltb}
use Rattle.std.proofs.Math.Decide.{dec_lt}
use Rattle.std.proofs.lemmas.Bool.{ltb-true, ltb-false}
use Rattle.std.proofs.lemmas.List.{get_or-take, get_or_default, length-take-le}
use Rattle.std.proofs.lemmas.List.Sorted.{IsPartitionedBy-ltb}
use Rattle.std.specs.List.Sorted.{IsNonDecreasingBy, IsPartitionedBy, IsPartitionPoint}
use Rattle.field.specs.declared.Marker.{Marker}
use Rattle.markers.specs.List.{slot, InUse}
use Rattle.markers.specs.Promise.{Rising}
use Rattle.markers.specs.Laws.Rising.{rises_le, rises_lt}
use Rattle.field.specs.Labels.{blank}
use Rattle.records.specs.Promise.{Belongs}

module _ {list : List Marker} {count : ℕ} (id : ℕ) (r : Rising list count) where
  same : (j i : ℕ) → ¬ (j < i) → ¬ (i < j) → j ≡ i
  same j i m n = omega arith

  in_use : length (take count list) ≡ count
  in_use = length-take-le count list r.lent

  rise : IsNonDecreasingBy (λ m. m.id) (take count list)
  rise i j d l m =
      let p : j < count = omega (arith, in_use) in
      let q : i < count = omega arith in
      rw (get_or-take count list i d q, get_or-take count list j d p, one i d q, one j d p)
      (rises_le (λ (k : ℕ). (slot list k).id) count r.rising i j l p)
    where
      one : (k : ℕ) (d : Marker) → k < count → get_or list k d ≡ slot list k
      one k d l = get_or_default list k d blank (omega (arith, r.lent))

  pub by_id : IsPartitionedBy (λ m. ltb m.id id) (take count list)
  by_id = IsPartitionedBy-ltb (λ m. m.id) (take count list) id rise

  pub belongs : {k : ℕ} → IsPartitionPoint (λ m. ltb m.id id ≡ true) (λ m. ltb m.id id ≡ false) (take count list) k → k ≤ length (take count list)
      → Belongs list count id k
  belongs {k} p b =
      record {
        within = omega (arith, in_use);
        lower = λ j l. let q : j < count = omega (arith, in_use) in ltb-true _ _ (rw (get_or-take count list j blank q) at (p.0 j blank (omega arith) l));
        higher = λ j l m. ltb-false _ _ (rw (get_or-take count list j blank m) at (p.1 j blank l (omega (arith, in_use))));
      }

  -- In use means in its place.
  pub found : {k : ℕ} → Belongs list count id k → InUse list count id → (k < count) × ((slot list k).id ≡ id)
  found {k} b u = go (dec_lt u.place k) (dec_lt k u.place)
    where
      go : Dec (u.place < k) → Dec (k < u.place) → (k < count) × ((slot list k).id ≡ id)
      go (yes m) n = absurd (omega (arith, b.lower u.place m, u.is))
      go (no m) (yes n) =
          absurd (omega (
            arith,
            b.higher k (omega arith) (omega (arith, u.below)),
            rises_lt (λ (i : ℕ). (slot list i).id) count r.rising k u.place n u.below,
            u.is,
          ))
      go (no m) (no n) =
          let e : k ≡ u.place = same k u.place n m in
          (omega (arith, u.below), ap (λ (i : ℕ). (slot list i).id) e ∙ u.is)
