-- Lists that agree on the slots in use. Whether a list is well formed, which ids are in use and
-- which crossings are rocks hang on these slots alone.
use Rattle.std.specs.Prelude.{◌≡◌, List, ◌⊎◌, ℕ, ◌+◌, ◌-◌, ◌<◌, ◌≤◌, length, take}
use Rattle.std.proofs.Common.{sym, ap, subst, ◌∙◌, inl, inr, arith, length-take-le, get_or-take, ext_get_or}
use Rattle.std.proofs.Math.Decide.{dec_lt, ℕ_discrete}
use Rattle.field.specs.declared.Marker.{Marker}
use Rattle.field.specs.Map.{On}
use Rattle.field.specs.Distances.{Way}
use Rattle.field.specs.Labels.{blank}
use Rattle.field.specs.Refusals.{bad_size, bad_sheet, bad_list}
use Rattle.markers.specs.List.{slot, WellFormed, InUse, Entered, Cleared, in_use_of}
use Rattle.markers.specs.Laws.Rising.{RisingIds, id_one}
use Rattle.markers.proofs.Laws.Moves.{entered_above}
use Rattle.calls.specs.Rules.{LentMap, lent_map, Sized, Formed, markers_in, RocksOf, ClosedBy, Shared}
use Rattle.calls.specs.RuleLaws.{formed_holds}
use Rattle.calls.specs.Answers.{Early, LabelsAfter, DistancesAfter, RegionAfter, RouteAfter}
use Rattle.calls.specs.LinesCall.{LinesRegionAfter, JoinedAfter}

-- Slots below the count hold the same markers.
abbrev pub SameSlots : List Marker → List Marker → ℕ → Type 0
SameSlots list other count = (k : ℕ) → k < count → slot list k ≡ slot other k

-- Two lists agree on the slots in use: the count is at most both lengths, and the slots below it
-- are equal; or it is more than both. Nothing is said of the other slots, nor how many there are.
pub data Agree (list other : List Marker) (count : ℕ) : Type 0 where
  within : count ≤ length list → count ≤ length other → SameSlots list other count → Agree list other count
  past : length list < count → length other < count → Agree list other count

pub agree_turned : {list other : List Marker} {count : ℕ} → Agree list other count → Agree other list count
agree_turned (within l m s) = within m l (λ k b. sym (s k b))
agree_turned (past l m) = past m l

module _ {list other : List Marker} {count : ℕ} where
  pub agree_slots : Agree list other count → count ≤ length list → SameSlots list other count
  agree_slots (within l m s) b = s
  agree_slots (past l m) b = absurd (omega arith)

  -- The markers in use are the same.
  pub agree_in_use : Agree list other count → count ≤ length list → in_use_of list count ≡ in_use_of other count
  agree_in_use (within l m s) b =
      ext_get_or blank (take count list) (take count other) (length-take-le count list l ∙ sym (length-take-le count other m)) each
    where
      each : (k : ℕ) → k < length (take count list) → slot (take count list) k ≡ slot (take count other) k
      each k t =
          let u : k < count = omega (arith, length-take-le count list l) in
          get_or-take count list k blank u ∙ s k u ∙ sym (get_or-take count other k blank u)
  agree_in_use (past l m) b = absurd (omega arith)

  pub formed_moved : {w h : ℕ} → Agree list other count → WellFormed w h list count → WellFormed w h other count
  formed_moved {w} {h} (within l m s) f =
      record {
        few = f.few;
        lent = m;
        some_id = λ k b. subst (λ (n : Marker). 1 ≤ n.id) (s k b) (f.some_id k b);
        on = λ k b. subst (λ (n : Marker). On w h n.x n.y) (s k b) (f.on k b);
        rising = λ k b.
            omega (arith, f.rising k b, ap (λ (n : Marker). n.id) (s k (omega arith)), ap (λ (n : Marker). n.id) (s (k + 1) b));
      }
  formed_moved (past l m) f = absurd (omega (arith, f.lent))

  pub used_moved : {id : ℕ} → SameSlots list other count → InUse list count id → InUse other count id
  used_moved s u = record { place = u.place; below = u.below; is = sym (ap (λ (n : Marker). n.id) (s u.place u.below)) ∙ u.is }

  pub shared_moved : SameSlots list other count → Shared list count → Shared other count
  shared_moved s t =
      record {
        j = t.j;
        k = t.k;
        j_below = t.j_below;
        k_below = t.k_below;
        two = t.two;
        x = same (λ n. n.x) t.x;
        y = same (λ n. n.y) t.y;
      }
    where
      same : (f : Marker → ℕ) → f (slot list t.j) ≡ f (slot list t.k) → f (slot other t.j) ≡ f (slot other t.k)
      same f e = sym (ap f (s t.j t.j_below)) ∙ e ∙ ap f (s t.k t.k_below)

-- The same map with another list.
abbrev pub with_list : LentMap → List Marker → LentMap
with_list m other = lent_map other m.count m.width m.height m.clearance

-- The table of an asking, opened: 1, 2, 3, and what its own rows give.
abbrev pub AskingGives : LentMap → Type 0 → Type 0 → ℕ → Type 0
AskingGives m Misfits Own n =
    ((¬ Sized m) × (n ≡ bad_size))
    ⊎ ((¬ ¬ Sized m) × ((Misfits × (n ≡ bad_sheet)) ⊎ ((¬ Misfits) × (((¬ Formed m) × (n ≡ bad_list)) ⊎ ((¬ ¬ Formed m) × Own)))))

module _ (m : LentMap) {other : List Marker} (a : Agree m.list other m.count) where
  -- A list that row 3 passes has the same markers in use as the other.
  passed_in_use : ¬ ¬ Formed m → markers_in m ≡ markers_in (with_list m other)
  passed_in_use f = agree_in_use a (formed_holds f).lent

  pub asked_moved : {M G K : Type 0} {n : ℕ} → AskingGives m M G n → (markers_in m ≡ markers_in (with_list m other) → G → K)
      → AskingGives (with_list m other) M K n
  asked_moved (inl p) f = inl p
  asked_moved (inr (s, inl p)) f = inr (s, inl p)
  asked_moved (inr (s, inr (q, inl p))) f = inr (s, inr (q, inl (λ t. p.0 (formed_moved (agree_turned a) t), p.1)))
  asked_moved (inr (s, inr (q, inr p))) f =
      inr (s, inr (q, inr (λ t. p.0 (λ u. t (formed_moved a u)), f (passed_in_use p.0) p.1)))

  -- So has one whose label sheet is filled.
  pub asked_in_use : {M G : Type 0} {n : ℕ} → AskingGives m M G n → ¬ Early n → markers_in m ≡ markers_in (with_list m other)
  asked_in_use (inl p) e = absurd (e (omega (arith, p.1)))
  asked_in_use (inr (s, inl p)) e = absurd (e (omega (arith, p.1)))
  asked_in_use (inr (s, inr (q, inl p))) e = absurd (e (omega (arith, p.1)))
  asked_in_use (inr (s, inr (q, inr p))) e = passed_in_use p.0

  pub labels_moved : {M G : Type 0} {n : ℕ} {labels labels' : List ℕ} → AskingGives m M G n
      → LabelsAfter (RocksOf m) m.width m.height n labels labels'
      → LabelsAfter (RocksOf (with_list m other)) m.width m.height n labels labels'
  labels_moved g l = record { kept = l.kept; labelled = λ t. rw (asked_in_use g t) at (l.labelled t) }

  pub sheet_moved : {M G : Type 0} {way : Way} {n : ℕ} {sheet sheet' : List ℕ} → AskingGives m M G n
      → DistancesAfter m.width m.height (ClosedBy m) way n sheet sheet'
      → DistancesAfter m.width m.height (ClosedBy (with_list m other)) way n sheet sheet'
  sheet_moved g l = record { kept = l.kept; filled = λ z. rw (asked_in_use g (λ t. omega (arith, t.0))) at (l.filled z) }

  pub region_moved : {M G : Type 0} {sx sy dx dy n : ℕ} {region region' : List ℕ} → AskingGives m M G n
      → RegionAfter m.width m.height (ClosedBy m) sx sy dx dy n region region'
      → RegionAfter m.width m.height (ClosedBy (with_list m other)) sx sy dx dy n region region'
  region_moved {n} g l =
      record {
        kept = l.kept;
        size = l.size;
        zeros = l.zeros;
        made = λ t. rw (asked_in_use g (λ e. t (omega (arith, e)))) at (l.made t);
      }

  pub route_moved : {M G : Type 0} {sx sy dx dy n i state state' : ℕ} {route route' : List ℕ} → AskingGives m M G n
      → RouteAfter m.width m.height (ClosedBy m) sx sy dx dy n i route state route' state'
      → RouteAfter m.width m.height (ClosedBy (with_list m other)) sx sy dx dy n i route state route' state'
  route_moved g l =
      record {
        none = l.none;
        kept = l.kept;
        still = l.still;
        long = l.long;
        driven = λ z. rw (asked_in_use g (λ t. omega (arith, t.0))) at (l.driven z);
        rest = l.rest;
      }

  pub lines_region_moved : {M G : Type 0} {sx sy dx dy n : ℕ} {region region' : List ℕ} → AskingGives m M G n
      → LinesRegionAfter m.width m.height (ClosedBy m) sx sy dx dy n region region'
      → LinesRegionAfter m.width m.height (ClosedBy (with_list m other)) sx sy dx dy n region region'
  lines_region_moved {n} g l =
      record { kept = l.kept; made = λ t. rw (asked_in_use g (λ e. t (inl (e.0, omega (arith, e.1))))) at (l.made t) }

  pub joined_moved : {M G : Type 0} {sx sy dx dy n i state state' : ℕ} {route route' : List ℕ} → AskingGives m M G n
      → JoinedAfter m.width m.height (ClosedBy m) sx sy dx dy n i route state route' state'
      → JoinedAfter m.width m.height (ClosedBy (with_list m other)) sx sy dx dy n i route state route' state'
  joined_moved g l =
      record {
        none = l.none;
        kept = l.kept;
        still = l.still;
        long = l.long;
        driven = λ z. rw (asked_in_use g (λ t. omega (arith, t.0))) at (l.driven z);
        rest = l.rest;
      }

-- The table of a call that is lent no sheet, opened: 1, 3, and what its own rows give.
abbrev pub ListGives : LentMap → Type 0 → ℕ → Type 0
ListGives m Own n =
    ((¬ Sized m) × (n ≡ bad_size)) ⊎ ((¬ ¬ Sized m) × (((¬ Formed m) × (n ≡ bad_list)) ⊎ ((¬ ¬ Formed m) × Own)))

pub listed_moved : (m : LentMap) {other : List Marker} {n : ℕ} {G K : Type 0} → Agree m.list other m.count → ListGives m G n
    → (m.count ≤ length m.list → G → K) → ListGives (with_list m other) K n
listed_moved m a (inl p) f = inl p
listed_moved m a (inr (s, inl p)) f = inr (s, inl (λ t. p.0 (formed_moved (agree_turned a) t), p.1))
listed_moved m a (inr (s, inr p)) f = inr (s, inr (λ t. p.0 (λ u. t (formed_moved a u)), f (formed_holds p.0).lent p.1))

-- Entering and clearing leave the slots in use equal again: the same id stands or belongs at the
-- same place in both.
entered_place : {list other list' other' : List Marker} {count : ℕ} {m : Marker} → SameSlots list other count → (p : Entered list count m list')
    (q : Entered other count m other') → p.place ≤ q.place
entered_place {count = count} {m = m} s p q = go (dec_lt q.place p.place)
  where
    go : Dec (q.place < p.place) → p.place ≤ q.place
    go (yes l) =
        let b : q.place < count = omega (arith, p.within) in
        absurd
        (omega (arith, p.lower q.place l, q.higher q.place (omega arith) b, ap (λ (n : Marker). n.id) (s q.place b)))
    go (no l) = omega arith

pub entered_agree : {list other list' other' : List Marker} {count : ℕ} {m : Marker} → SameSlots list other count → Entered list count m list'
    → Entered other count m other' → SameSlots list' other' (count + 1)
entered_agree {list} {other} {list'} {other'} {count} {m} s p q k l = go (dec_lt k p.place) (ℕ_discrete k p.place)
  where
    same : p.place ≡ q.place
    same = omega (arith, entered_place s p q, entered_place (λ i b. sym (s i b)) q p)

    go : Dec (k < p.place) → Dec (k ≡ p.place) → slot list' k ≡ slot other' k
    go (yes b) e = p.before k b ∙ s k (omega (arith, p.within)) ∙ sym (q.before k (omega (arith, same)))
    go (no b) (yes e) = ap (slot list') e ∙ p.put ∙ sym q.put ∙ ap (slot other') (sym (e ∙ same))
    go (no b) (no e) =
        entered_above p k (omega arith) l ∙ s (k - 1) (omega arith) ∙ sym (entered_above q k (omega (arith, same)) l)

pub cleared_agree : {list other list' other' : List Marker} {count next id : ℕ} → RisingIds list count → SameSlots list other count
    → Cleared list count id list' → Cleared other count id other' → next + 1 ≡ count → SameSlots list' other' next
cleared_agree {list} {other} {list'} {other'} {count} {next} {id} r s p q n k l = go (dec_lt k p.place)
  where
    same : p.place ≡ q.place
    same =
        id_one list count r p.place q.place p.below q.below
        (p.is ∙ sym (ap (λ (m : Marker). m.id) (s q.place q.below) ∙ q.is))

    go : Dec (k < p.place) → slot list' k ≡ slot other' k
    go (yes b) = p.before k b ∙ s k (omega arith) ∙ sym (q.before k (omega (arith, same)))
    go (no b) =
        p.moved k (omega arith) (omega arith) ∙ s (k + 1) (omega arith) ∙ sym (q.moved k (omega (arith, same)) (omega arith))
