-- A test for each row of the table of small lists, which the checker computes, and that a row which
-- passes its test holds.
use Rattle.std.specs.Prelude.{◌≡◌, refl, Bool, cond, not, ◌&&◌, ◌||◌, List, ℕ, zero, suc, ◌+◌, ◌-◌, ◌<◌, ◌≤◌, leb, eqb}
use Rattle.std.proofs.Common.{sym, ◌∙◌}
use Rattle.std.proofs.Math.Path.{ap}
use Rattle.std.proofs.Math.Bool.{true}
use Rattle.std.proofs.lemmas.Bool.{false≢true}
use native.Mathlib.Omega.{arith}
use Rattle.std.proofs.Math.Decide.{dec_lt}
use Rattle.std.proofs.Math.Dec.{ltb}
use Rattle.std.proofs.Math.ListN.{length, get_or-eq_default}
use borrow.Author.Tests.{ltb-true, leb-true, eqb-true, lt-ltb, le-leb, not-true}
use Rattle.field.specs.declared.Marker.{Marker}
use Rattle.field.specs.Map.{On, most_markers}
use Rattle.field.specs.Labels.{blank}
use Rattle.field.specs.Table.{wide, high}
use Rattle.field.specs.Workings.Tests.{and_split, and_both, or_case, only}
use Rattle.field.proofs.Workings.Corners.{every, every_one}
use Rattle.markers.specs.List.{slot, WellFormed, Entered, Cleared}
use Rattle.markers.specs.Promise.{marker}
use Rattle.markers.specs.Table.{Row, formed, not_formed, enters, clears, most, Holds}
use Rattle.markers.specs.Laws.Making.{slots, slots_size, slots_at}
use Rattle.markers.proofs.Laws.Entering.{entered_one}
use Rattle.markers.proofs.Laws.Clearing.{cleared_one}

-- What holds of 0, 1, .., n - 1 passes.
one_every : (n : ℕ) (f : ℕ → Bool) → ((k : ℕ) → k < n → f k ≡ true) → every n f ≡ true
unfolding every
one_every zero f p = refl
one_every (suc n) f p = and_both _ _ (p n (omega arith)) (one_every n f (λ k l. p k (omega arith)))

-- Two markers are the same.
unfoldable pub alike : Marker → Marker → Bool
alike m n = (eqb m.id n.id && eqb m.x n.x) && (eqb m.y n.y && eqb m.height n.height)

alike_is : (m n : Marker) → alike m n ≡ true → m ≡ n
unfolding alike
alike_is m n e =
    let f = and_split _ _ e in
    let g = and_split _ _ f.0 in
    let h = and_split _ _ f.1 in
    let p : m.id ≡ n.id = eqb-true _ _ g.0 in
    let q : m.x ≡ n.x = eqb-true _ _ g.1 in
    let r : m.y ≡ n.y = eqb-true _ _ h.0 in
    let t : m.height ≡ n.height = eqb-true _ _ h.1 in
    λ i. record { id = p i; x = q i; y = r i; height = t i }

-- A marker's id is not 0 and it stands on the map; its id is below the next one's.
unfoldable pub good_at : List Marker → ℕ → Bool
good_at list k = leb 1 (slot list k).id && (ltb (slot list k).x wide && ltb (slot list k).y high)

good_at_lem : (list : List Marker) (k : ℕ) → good_at list k ≡ true → (1 ≤ (slot list k).id) × On wide high (slot list k).x (slot list k).y
unfolding good_at
good_at_lem list k e =
    let f = and_split _ _ e in
    let g = and_split _ _ f.1 in
    (leb-true _ _ f.0, record { in_x = ltb-true _ _ g.0; in_y = ltb-true _ _ g.1 })

unfoldable pub rises_at : List Marker → ℕ → Bool
rises_at list k = ltb (slot list k).id (slot list (k + 1)).id

-- The list is well formed.
unfoldable pub formed_of : List Marker → ℕ → Bool
formed_of list count =
    (leb count most_markers && leb count (length list)) && (every count (good_at list) && every (count - 1) (rises_at list))

module _ (list : List Marker) (count : ℕ) where
  formed_sound : formed_of list count ≡ true → WellFormed wide high list count
  unfolding formed_of rises_at
  formed_sound e =
      let f = and_split _ _ e in
      let g = and_split _ _ f.0 in
      let h = and_split _ _ f.1 in
      let good : (k : ℕ) → k < count → good_at list k ≡ true = every_one count (good_at list) h.0 in
      record {
        few = leb-true _ _ g.0;
        lent = leb-true _ _ g.1;
        some_id = λ k l. (good_at_lem list k (good k l)).0;
        on = λ k l. (good_at_lem list k (good k l)).1;
        rising = λ k l. ltb-true _ _ (every_one (count - 1) (rises_at list) h.1 k (omega arith));
      }

  formed_complete : WellFormed wide high list count → formed_of list count ≡ true
  unfolding formed_of good_at rises_at
  formed_complete w =
      and_both _ _ (and_both _ _ (le-leb _ _ w.few) (le-leb _ _ w.lent))
      (and_both _ _
      (one_every count (good_at list)
      (λ k l. and_both _ _ (le-leb _ _ (w.some_id k l)) (and_both _ _ (lt-ltb _ _ (w.on k l).in_x) (lt-ltb _ _ (w.on k l).in_y))))
      (one_every (count - 1) (rises_at list) (λ k l. lt-ltb _ _ (w.rising k (omega arith)))))

-- The place of an id: after every marker in use that has a lower one.
unfoldable pub place_of : List Marker → ℕ → ℕ → ℕ
place_of list zero id = 0
place_of list (suc n) id = cond (ltb (slot list n).id id) (suc n) (place_of list n id)

-- The slots from a to n agree, those of one list moved by so many from those of the other.
unfoldable pub agree : List Marker → List Marker → ℕ → ℕ → ℕ → ℕ → Bool
agree s t a n up down = every n (λ k. ltb k a || alike (slot s (k + up)) (slot t (k + down)))

agree_at : (s t : List Marker) (a n up down : ℕ) → agree s t a n up down ≡ true → (k : ℕ) → a ≤ k → k < n → slot s (k + up) ≡ slot t (k + down)
unfolding agree
agree_at s t a n up down e k l m =
    or_case (ltb k a) (alike (slot s (k + up)) (slot t (k + down))) (λ q. absurd (omega (arith, ltb-true k a q)))
    (alike_is (slot s (k + up)) (slot t (k + down)))
    (every_one n (λ k. ltb k a || alike (slot s (k + up)) (slot t (k + down))) e k m)

-- Past the end two lists of one length agree.
past_end : (s t : List Marker) (a : ℕ) → length s ≡ length t → agree s t a (length t) 0 0 ≡ true → (k : ℕ) → a ≤ k → slot s k ≡ slot t k
past_end s t a z e k l = go (dec_lt k (length t))
  where
    stay : (i : ℕ) → i + 0 ≡ i
    stay i = omega arith

    go : Dec (k < length t) → slot s k ≡ slot t k
    go (yes m) = ap (slot s) (sym (stay k)) ∙ agree_at s t a (length t) 0 0 e k l m ∙ ap (slot t) (stay k)
    go (no m) = get_or-eq_default s blank (omega arith) ∙ sym (get_or-eq_default t blank (omega arith))

module _ (list : List Marker) (count : ℕ) (after : List Marker) where
  -- Entering at this place makes that list.
  unfoldable pub entered_at : Marker → ℕ → Bool
  entered_at m place =
      ((leb place count && every place (λ k. ltb (slot list k).id m.id)) && every count (λ k. ltb k place || ltb m.id (slot list k).id))
      && ((eqb (length after) (length list) && alike (slot after place) m)
      && (agree after list 0 place 0 0 && (agree after list place count 1 0 && agree after list (suc count) (length list) 0 0)))

  entered_sound : (m : Marker) (place : ℕ) → entered_at m place ≡ true → Entered list count m after
  unfolding entered_at
  entered_sound m place e =
      let f = and_split _ _ e in
      let g = and_split _ _ f.0 in
      let h = and_split _ _ g.0 in
      let i = and_split _ _ f.1 in
      let j = and_split _ _ i.0 in
      let a = and_split _ _ i.1 in
      let b = and_split _ _ a.1 in
      let size : length after ≡ length list = eqb-true _ _ j.0 in
      record {
        place = place;
        within = leb-true _ _ h.0;
        lower = λ k l. ltb-true _ _ (every_one place (λ k. ltb (slot list k).id m.id) h.1 k l);
        higher = λ k l u.
            or_case (ltb k place) (ltb m.id (slot list k).id) (λ q. absurd (omega (arith, ltb-true k place q)))
            (ltb-true m.id (slot list k).id)
            (every_one count (λ k. ltb k place || ltb m.id (slot list k).id) g.1 k u);
        size = size;
        before = λ k l. ap (slot after) (sym (stay k)) ∙ agree_at after list 0 place 0 0 a.0 k (omega arith) l ∙ ap (slot list) (stay k);
        put = alike_is (slot after place) m j.1;
        moved = λ k l u. agree_at after list place count 1 0 b.0 k l u ∙ ap (slot list) (stay k);
        rest = λ k l. past_end after list (suc count) size b.1 k (omega arith);
      }
    where
      stay : (i : ℕ) → i + 0 ≡ i
      stay i = omega arith

  -- Clearing at this place makes that list.
  unfoldable pub cleared_at : ℕ → ℕ → Bool
  cleared_at id place =
      ((ltb place count && eqb (slot list place).id id) && (eqb (length after) (length list) && alike (slot after (count - 1)) blank))
      && (agree after list 0 place 0 0 && (agree after list place (count - 1) 0 1 && agree after list count (length list) 0 0))

  cleared_sound : (id place : ℕ) → cleared_at id place ≡ true → Cleared list count id after
  unfolding cleared_at
  cleared_sound id place e =
      let f = and_split _ _ e in
      let g = and_split _ _ f.0 in
      let h = and_split _ _ g.0 in
      let i = and_split _ _ g.1 in
      let a = and_split _ _ f.1 in
      let b = and_split _ _ a.1 in
      let size : length after ≡ length list = eqb-true _ _ i.0 in
      record {
        place = place;
        below = ltb-true _ _ h.0;
        is = eqb-true _ _ h.1;
        size = size;
        before = λ k l. ap (slot after) (sym (stay k)) ∙ agree_at after list 0 place 0 0 a.0 k (omega arith) l ∙ ap (slot list) (stay k);
        moved = λ k l u. ap (slot after) (sym (stay k)) ∙ agree_at after list place (count - 1) 0 1 b.0 k l (omega arith);
        freed = λ k l. ap (slot after) (last k l) ∙ alike_is (slot after (count - 1)) blank i.1;
        rest = λ k l. past_end after list count size b.1 k l;
      }
    where
      stay : (i : ℕ) → i + 0 ≡ i
      stay i = omega arith

      last : (k : ℕ) → k + 1 ≡ count → k ≡ count - 1
      last k l = omega arith

-- As many as the limit may be in use: ids 1, 2, 3 and on, all on one crossing.
crowd : ℕ → List Marker
crowd n = slots n (λ k. marker (k + 1) 0 0 0)

crowd_formed : (n : ℕ) → n ≤ most_markers → WellFormed wide high (crowd n) n
unfolding crowd
crowd_formed n l =
    record {
      few = l;
      lent = omega (arith, slots_size n from);
      some_id = λ k m. omega (arith, ap (λ (j : Marker). j.id) (slots_at n from k m));
      on = λ k m.
          let e = slots_at n from k m in
          record { in_x = omega (arith, ap (λ (j : Marker). j.x) e); in_y = omega (arith, ap (λ (j : Marker). j.y) e) };
      rising = λ k m.
          omega (arith, ap (λ (j : Marker). j.id) (slots_at n from k (omega arith)), ap (λ (j : Marker). j.id) (slots_at n from (k + 1) m));
    }
  where
    from : ℕ → Marker
    from k = marker (k + 1) 0 0 0

-- The tests.
unfoldable pub passes : Row → Bool
passes (formed list count) = formed_of list count
passes (not_formed list count) = not (formed_of list count)
passes (enters list count m after) =
    formed_of list count && (entered_at list count after m (place_of list count m.id) && formed_of after (count + 1))
passes (clears list count id after) =
    formed_of list count && (cleared_at list count after id (place_of list count id) && formed_of after (count - 1))
passes (most n) = eqb n most_markers

pub passes_holds : (r : Row) → passes r ≡ true → Holds r
unfolding passes
passes_holds (formed list count) e = formed_sound list count e
passes_holds (not_formed list count) e = λ w. false≢true (sym (not-true _ e) ∙ formed_complete list count w)
passes_holds (enters list count m after) e =
    let f = and_split _ _ e in
    let g = and_split _ _ f.1 in (
      formed_sound list count f.0,
      only (Entered list count m) after (entered_sound list count after m (place_of list count m.id) g.0) (λ a b p q. entered_one p q),
      formed_sound after (count + 1) g.1,
    )
passes_holds (clears list count id after) e =
    let f = and_split _ _ e in
    let g = and_split _ _ f.1 in
    let w = formed_sound list count f.0 in (
      w,
      only (Cleared list count id) after (cleared_sound list count after id (place_of list count id) g.0) (λ a b p q. cleared_one w.rising p q),
      formed_sound after (count - 1) g.1,
    )
passes_holds (most n) e =
    let i : n ≡ most_markers = eqb-true n most_markers e in
    ((crowd n, crowd_formed n (omega arith)), λ list w. omega (arith, w.few))
