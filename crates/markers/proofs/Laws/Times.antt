-- How often each marker stands in a list: some one number of times. Entering makes it once more for
-- the marker entered, clearing once less for the one cleared, and every other marker stands in the
-- list after exactly as often as before.
use Rattle.std.specs.Prelude.{◌≡◌, refl, List, [], ◌∷◌, ℕ, zero, suc, ◌+◌, ◌<◌, ◌≤◌, length, take}
use Rattle.std.proofs.Common.{sym, subst, ap, ◌∙◌, arith, add-one, length-take, length-take-le, get_or-take, ext_get_or}
use Rattle.std.proofs.Math.Decide.{ℕ_discrete}
use Rattle.field.specs.declared.Marker.{Marker}
use Rattle.field.specs.Labels.{blank}
use Rattle.markers.specs.List.{slot, InUse, Entered, Cleared, in_use_of, Same, Times, none, here, other}
use Rattle.markers.specs.Laws.Rising.{RisingIds, id_one}
use Rattle.markers.proofs.Laws.Moves.{cleared_from}

same_itself : (m : Marker) → Same m m
same_itself m = record { id = refl; x = refl; y = refl; height = refl }

pub same_dec : (m n : Marker) → Dec (Same m n)
same_dec m n = go (ℕ_discrete m.id n.id) (ℕ_discrete m.x n.x) (ℕ_discrete m.y n.y) (ℕ_discrete m.height n.height)
  where
    go : Dec (m.id ≡ n.id) → Dec (m.x ≡ n.x) → Dec (m.y ≡ n.y) → Dec (m.height ≡ n.height) → Dec (Same m n)
    go (yes p) (yes q) (yes r) (yes t) = yes (record { id = p; x = q; y = r; height = t })
    go (no p) q r t = no (λ s. p s.id)
    go (yes p) (no q) r t = no (λ s. q s.x)
    go (yes p) (yes q) (no r) t = no (λ s. r s.y)
    go (yes p) (yes q) (yes r) (no t) = no (λ s. t s.height)

-- Every marker stands in every list some number of times, and no other number.
pub times_some : (m : Marker) (list : List Marker) → (t : ℕ) × Times m list t
times_some m [] = (0, none)
times_some m (k ∷ ks) = go (same_dec k m) (times_some m ks)
  where
    go : Dec (Same k m) → ((t : ℕ) × Times m ks t) → (t : ℕ) × Times m (k ∷ ks) t
    go (yes s) (n, p) = (n + 1, here s p refl)
    go (no s) (n, p) = (n, other s p)

pub times_one : {m : Marker} {list : List Marker} {s t : ℕ} → Times m list s → Times m list t → s ≡ t
times_one none none = refl
times_one (here a p e) (here b q f) = let z = times_one p q in omega arith
times_one (here a p e) (other b q) = absurd (b a)
times_one (other a p) (here b q f) = absurd (a b)
times_one (other a p) (other b q) = times_one p q

-- A marker that no slot holds stands there no time.
times_absent : (m : Marker) (list : List Marker) → ((k : ℕ) → k < length list → ¬ Same (slot list k) m) → Times m list 0
times_absent m [] f = none
times_absent m (k ∷ ks) f = other (f 0 (omega arith)) (times_absent m ks (λ j l. f (suc j) (omega arith)))

-- The second list is the first with m put in at one place.
pub data Added (m : Marker) : List Marker → List Marker → Type 0 where
  at_front : {ks : List Marker} → Added m ks (m ∷ ks)
  further : {k : Marker} {less more : List Marker} → Added m less more → Added m (k ∷ less) (k ∷ more)

-- Such lists by their slots: equal below the place, m at the place, one higher from it on.
added : (m : Marker) (less more : List Marker) (place : ℕ) → length more ≡ suc (length less) → place ≤ length less
    → ((k : ℕ) → k < place → slot more k ≡ slot less k) → slot more place ≡ m
    → ((k : ℕ) → place ≤ k → k < length less → slot more (suc k) ≡ slot less k) → Added m less more
added m less [] place l w b p v = absurd (omega arith)
added m less (n ∷ more) zero l w b p v =
    let e : more ≡ less = ext_get_or blank more less (omega arith) (λ k q. v k (omega arith) (omega arith)) in
    rw (p, e) at_front
added m [] (n ∷ more) (suc place) l w b p v = absurd (omega arith)
added m (k ∷ less) (n ∷ more) (suc place) l w b p v =
    rw (b 0 (omega arith))
    (further
    (added m less more place (omega arith) (omega arith) (λ j q. b (suc j) (omega arith)) p (λ j q r. v (suc j) (omega arith) (omega arith))))

module _ {m : Marker} where
  added_other : {n : Marker} {less more : List Marker} {t : ℕ} → ¬ Same m n → Added m less more → Times n less t → Times n more t
  added_other d at_front p = other d p
  added_other d (further a) (here s p e) = here s (added_other d a p) e
  added_other d (further a) (other s p) = other s (added_other d a p)

  added_itself : {less more : List Marker} {t : ℕ} → Added m less more → Times m less t → Times m more (t + 1)
  added_itself at_front p = here (same_itself m) p refl
  added_itself (further a) (here s p e) = here s (added_itself a p) (ap (λ (i : ℕ). i + 1) e)
  added_itself (further a) (other s p) = other s (added_itself a p)

-- Entering adds the marker to those in use.
pub entered_added : {list after : List Marker} {count : ℕ} {m : Marker} → count < length list → Entered list count m after
    → Added m (in_use_of list count) (in_use_of after (count + 1))
entered_added {list} {after} {count} {m} room e =
    added m (take count list) (take (count + 1) after) e.place (omega (arith, less, more)) (omega (arith, less, e.within))
    (λ k l. new k (omega (arith, e.within)) ∙ e.before k l ∙ sym (old k (omega (arith, e.within))))
    (new e.place (omega (arith, e.within)) ∙ e.put)
    (λ k l n. new (suc k) (omega (arith, less)) ∙ ap (slot after) (sym (add-one k)) ∙ e.moved k l (omega (arith, less))
    ∙ sym (old k (omega (arith, less))))
  where
    less : length (take count list) ≡ count
    less = length-take-le count list (omega arith)

    more : length (take (count + 1) after) ≡ count + 1
    more = length-take-le (count + 1) after (omega (arith, e.size))

    old : (k : ℕ) → k < count → slot (take count list) k ≡ slot list k
    old k l = get_or-take count list k blank l

    new : (k : ℕ) → k < count + 1 → slot (take (count + 1) after) k ≡ slot after k
    new k l = get_or-take (count + 1) after k blank l

-- Clearing takes the marker from those in use: those before are those after with it added.
pub cleared_added : {list after : List Marker} {count id : ℕ} (next : ℕ) → count ≤ length list → (c : Cleared list count id after) → next + 1 ≡ count
    → Added (slot list c.place) (in_use_of after next) (in_use_of list count)
cleared_added {list} {after} {count} {id} next lent c n =
    added (slot list c.place) (take next after) (take count list) c.place (omega (arith, less, more)) (omega (arith, less, c.below))
    (λ k l. old k (omega (arith, c.below)) ∙ sym (c.before k l) ∙ sym (new k (omega (arith, c.below))))
    (old c.place c.below)
    (λ k l q. old (suc k) (omega (arith, less)) ∙ ap (slot list) (sym (add-one k)) ∙ sym (c.moved k l (omega (arith, less)))
    ∙ sym (new k (omega (arith, less))))
  where
    less : length (take next after) ≡ next
    less = length-take-le next after (omega (arith, c.size))

    more : length (take count list) ≡ count
    more = length-take-le count list lent

    old : (k : ℕ) → k < count → slot (take count list) k ≡ slot list k
    old k l = get_or-take count list k blank l

    new : (k : ℕ) → k < next → slot (take next after) k ≡ slot after k
    new k l = get_or-take next after k blank l

-- A marker whose id is not in use stands there no time.
pub times_fresh : {list : List Marker} {count : ℕ} {m : Marker} → ¬ InUse list count m.id → Times m (in_use_of list count) 0
times_fresh {list} {count} {m} new = times_absent m (in_use_of list count) absent
  where
    absent : (k : ℕ) → k < length (in_use_of list count) → ¬ Same (slot (in_use_of list count) k) m
    absent k l s =
        let b : k < count = omega (arith, l, length-take count list) in
        new (record { place = k; below = b; is = sym (ap (λ (n : Marker). n.id) (get_or-take count list k blank b)) ∙ s.id })

-- The marker entered stands in the list once more, and every other one as often as before.
module _ {list after : List Marker} {count : ℕ} {m : Marker} (room : count < length list) (e : Entered list count m after) where
  pub entered_other : {n : Marker} {t : ℕ} → ¬ Same m n → Times n (in_use_of list count) t → Times n (in_use_of after (count + 1)) t
  entered_other d p = added_other d (entered_added room e) p

  pub entered_itself : {t : ℕ} → Times m (in_use_of list count) t → Times m (in_use_of after (count + 1)) (t + 1)
  entered_itself p = added_itself (entered_added room e) p

  -- Its id was not in use: so it stands there once.
  pub entered_once : ¬ InUse list count m.id → Times m (in_use_of after (count + 1)) 1
  entered_once new = entered_itself (times_fresh new)

-- The marker cleared stood in the list once more than it stands there after, and every other one as
-- often as after.
module _ {list after : List Marker} {count id : ℕ} (next : ℕ) (lent : count ≤ length list) (c : Cleared list count id after)
    (n : next + 1 ≡ count) where
  pub cleared_other : {m : Marker} {t : ℕ} → ¬ Same (slot list c.place) m → Times m (in_use_of list count) t → Times m (in_use_of after next) t
  cleared_other {m} {t} d p =
      let s = times_some m (in_use_of after next) in
      subst (Times m (in_use_of after next)) (times_one (added_other d (cleared_added next lent c n) s.1) p) s.1

  pub cleared_itself : {t : ℕ} → Times (slot list c.place) (in_use_of after next) t → Times (slot list c.place) (in_use_of list count) (t + 1)
  cleared_itself p = added_itself (cleared_added next lent c n) p

  -- No other marker bears its id: so none with that id is left.
  pub cleared_gone : RisingIds list count → (m : Marker) → m.id ≡ id → Times m (in_use_of after next) 0
  cleared_gone r m e = times_absent m (in_use_of after next) absent
    where
      absent : (k : ℕ) → k < length (in_use_of after next) → ¬ Same (slot (in_use_of after next) k) m
      absent k l s =
          let b : k < next = omega (arith, l, length-take next after) in
          let o = cleared_from c n k b in
          let i : (slot list o.place).id ≡ (slot list c.place).id =
          ap (λ (j : Marker). j.id) (o.is ∙ sym (get_or-take next after k blank b)) ∙ s.id ∙ e ∙ sym c.is in
          o.other (id_one list count r o.place c.place o.below c.below i)
