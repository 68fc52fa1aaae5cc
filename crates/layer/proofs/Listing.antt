-- Entering and clearing: what is found of the map, the list and the id tells which rows apply, and
-- what is left where none does.
use Rattle.std.proofs.Common.{◌≡◌, refl, Bool, true, List, [], ◌∷◌, ◌↔◌, inl, inr, ℕ, ◌+◌, ◌<◌, ◌≤◌, ◌^◌, length, arith}
use Rattle.std.proofs.Math.Decide.{dec_lt}
use Rattle.std.specs.Prelude.{Result, Ok, Err}
use Rattle.std.proofs.lemmas.Result.{err_from_is_err_and}
use Rattle.field.specs.declared.Marker.{Marker}
use Rattle.field.specs.declared.refusals.Refusal.{Refusal}
use Rattle.field.specs.Refusals.{number_of}
use Rattle.field.specs.Limits.{side_is}
use Rattle.markers.specs.List.{slot, InUse, Cleared}
use Rattle.markers.specs.Promise.{Rising, marker, Enters, Clears}
use Rattle.records.specs.declared.Spot.{Spot}
use Rattle.records.specs.Promise.{MayEnter, MayClear, Belongs}
use Rattle.records.proofs.Seeking.{found as in_place}
use Rattle.calls.specs.Rules
use Rattle.calls.specs.Rules.{LentMap, Sized, OnIt, Formed, Gives}
use Rattle.calls.specs.RuleLaws.{None, gives_none, gives_reworded, same, holds, on_holds}
use Rattle.calls.specs.Calls.{EnterCall, ClearCall}
use Rattle.calls.specs.Told.{counted}
use Rattle.judging.specs.Judging.{new_judged, clear_judged}
use Rattle.layer.specs.Prepared.{Seeks}
use Rattle.layer.proofs.Tables.{not_no, no_means}
use Rattle.layer.proofs.Joining.{Handed, some_number}

module _ (m : LentMap) {id : ℕ} where
  -- Refused before the id is looked for.
  pub enter_early : {x y height : ℕ} {e : Refusal} (r : Result ℕ Refusal) → Seeks m id (Err e) → Handed e r → EnterCall m id x y height m.list (counted r)
  enter_early {x} {y} {e = e} r s f =
      let q = err_from_is_err_and r f.1 in
      rw (q.1, q.2) (record { given = go s; kept = λ _. refl; refused = λ _. refl; done = λ z. absurd (some_number e z) })
    where
      go : Seeks m id (Err e) → Gives (Rules.enter_table m id x y) (number_of e)
      go (inl k) = rw k.1 (inl (k.0, refl))
      go (inr k) = rw k.2 (inr (λ f. f k.0, inl (k.1, refl)))

  pub clear_early : {e : Refusal} (r : Result ℕ Refusal) → Seeks m id (Err e) → Handed e r → ClearCall m id m.list (counted r)
  clear_early {e} r s f =
      let q = err_from_is_err_and r f.1 in
      rw (q.1, q.2) (record { given = go s; kept = λ _. refl; refused = λ _. refl; done = λ z. absurd (some_number e z) })
    where
      go : Seeks m id (Err e) → Gives (Rules.clear_table m id) (number_of e)
      go (inl k) = rw k.1 (inl (k.0, refl))
      go (inr k) = rw k.2 (inr (λ f. f k.0, inl (k.1, refl)))

  -- Where the size is good and the list is well formed, the rows ask whether the id is in use, and
  -- nothing of its place.
  module _ {used : Bool} (found : Sized m × Formed m × ((used ≡ true) ↔ InUse m.list m.count id)) where
    -- So the list's ids rise.
    rising : Rising m.list m.count
    rising = record { lent = found.1.lent; rising = found.1.rising }

    enter_gives : {x y n : ℕ} → Gives (new_judged used m.width m.height id x y m.count (length m.list)) n → Gives (Rules.enter_table m id x y) n
    enter_gives {x} {y} {n} g =
        inr (
          λ f. f found.0,
          inr (
            λ f. f found.1,
            gives_reworded (new_judged used m.width m.height id x y m.count (length m.list)) (Rules.new_rule m id x y ∷ Rules.in_use_rule m id ∷ Rules.slot_rule m ∷ []) n
                (refl, same, λ _. (refl, found.2, λ _. (refl, same, λ _. tt))) g,
          ),
        )

    clear_gives : {n : ℕ} → Gives (clear_judged used) n → Gives (Rules.clear_table m id) n
    clear_gives {n} g =
        inr (
          λ f. f found.0,
          inr (
            λ f. f found.1,
            gives_reworded (clear_judged used) (Rules.not_in_use_rule m id ∷ []) n (refl, no_means used found.2, λ _. tt) g,
          ),
        )

    pub enter_refused : {x y height : ℕ} (e : Refusal) (r : Result ℕ Refusal) → Gives (new_judged used m.width m.height id x y m.count (length m.list)) (number_of e) → Handed e r
        → EnterCall m id x y height m.list (counted r)
    enter_refused e r g f =
        let q = err_from_is_err_and r f.1 in
        rw (q.1, q.2) (record { given = enter_gives g; kept = λ _. refl; refused = λ _. refl; done = λ z. absurd (some_number e z) })

    pub clear_refused : (e : Refusal) (r : Result ℕ Refusal) → Gives (clear_judged used) (number_of e) → Handed e r → ClearCall m id m.list (counted r)
    clear_refused e r g f =
        let q = err_from_is_err_and r f.1 in
        rw (q.1, q.2) (record { given = clear_gives g; kept = λ _. refl; refused = λ _. refl; done = λ z. absurd (some_number e z) })

    module _ {x y : ℕ} (g : Gives (new_judged used m.width m.height id x y m.count (length m.list)) 0) where
      free : None (Rules.enter_table m id x y)
      free = gives_none (Rules.enter_table m id x y) 0 0 (omega arith) (enter_gives g) refl

      on : OnIt m x y
      on = on_holds (λ f. free.1.1.0 (inl f))

      -- The new marker's crossing is on the map, so it fits a record.
      pub enter_fits : (x < 2 ^ 16) × (y < 2 ^ 16)
      enter_fits = (omega (arith, on.in_x, found.0.most_w, side_is), omega (arith, on.in_y, found.0.most_h, side_is))

      pub enter_may : {height : ℕ} → MayEnter m.list m.count (marker id x y height)
      enter_may =
          record {
            rising = rising;
            new = free.1.1.1.0;
            room = holds (dec_lt m.count (length m.list)) (λ f. free.1.1.1.1.0 (inl (omega arith)));
          }

      pub enter_done : {height n : ℕ} {after : List Marker} → Enters m.list m.count (marker id x y height) after n → EnterCall m id x y height after (counted (Ok n))
      enter_done e = record { given = enter_gives g; kept = λ f. absurd (f refl); refused = λ f. absurd (f refl); done = λ _. e }

    module _ (g : Gives (clear_judged used) 0) where
      pub clear_may : MayClear m.list m.count id
      clear_may =
          record { rising = rising; used = found.2.0 (not_no used (gives_none (clear_judged used) 0 0 (omega arith) g refl).0) }

      pub clear_done : {n : ℕ} {after : List Marker} → Clears m.list m.count id after n → ClearCall m id after (counted (Ok n))
      clear_done e = record { given = clear_gives g; kept = λ f. absurd (f refl); refused = λ f. absurd (f refl); done = λ _. e }

  -- Of a spot found, the rows ask only whether the id is in use; entering and clearing go by its
  -- place.
  module _ {spot : Spot} (found : Seeks m id (Ok spot)) where
    pub for_rows : Sized m × Formed m × ((spot.used ≡ true) ↔ InUse m.list m.count id)
    for_rows = (found.0, found.1, found.2.used)

    -- The place found is the marker's by id.
    pub enter_belongs : Belongs m.list m.count id spot.place
    enter_belongs = found.2.at

    module _ (g : Gives (clear_judged spot.used) 0) where
      -- The marker stands in its place, and bears the id.
      stands : (spot.place < m.count) × ((slot m.list spot.place).id ≡ id)
      stands = in_place id (rising for_rows) found.2.at (clear_may for_rows g).used

      pub clear_fits : (spot.place < m.count) × (m.count ≤ length m.list)
      clear_fits = (stands.0, found.1.lent)

      pub cleared : {n : ℕ} {after : List Marker} → Cleared m.list m.count (slot m.list spot.place).id after → n + 1 ≡ m.count → Clears m.list m.count id after n
      cleared k e = record { list = rw stands.1 at k; counted = e }
