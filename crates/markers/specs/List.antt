-- The caller's list of markers with its count, and what entering and clearing make of it.
use Rattle.std.specs.Prelude.{◌≡◌, List, [], ◌∷◌, ℕ, ◌+◌, ◌<◌, ◌≤◌, length, get_or, take}
use Rattle.field.specs.declared.Marker.{Marker}
use Rattle.field.specs.Map.{On, most_markers}
use Rattle.field.specs.Labels.{blank}

-- The marker in slot k.
abbrev pub slot : List Marker → ℕ → Marker
slot list k = get_or list k blank

-- "A marker is a record of a sixteen-bit id (1 to 65,535) and a crossing. The caller lends a list
-- of marker records with a count of those in use. Ids in use rise strictly. At most 4,096 are in
-- use." "Raise ... markers in use to 8,192" (Req 07). Refusal 3 is given exactly where this fails:
-- "count over 4,096 or over the list lent, an id 0, ids not rising, or a marker off the map",
-- high or low, and "1, 3 and 7 read the new limits" (Req 07). Slots past the count are not looked
-- at.
pub record WellFormed (w h : ℕ) (list : List Marker) (count : ℕ) : Type 0 where
  pub few : count ≤ most_markers
  pub lent : count ≤ length list
  pub some_id : (k : ℕ) → k < count → 1 ≤ (slot list k).id
  pub on : (k : ℕ) → k < count → On w h (slot list k).x (slot list k).y
  pub rising : (k : ℕ) → k + 1 < count → (slot list k).id < (slot list (k + 1)).id

-- The id is in use.
pub record InUse (list : List Marker) (count id : ℕ) : Type 0 where
  pub place : ℕ
  pub below : place < count
  pub is : (slot list place).id ≡ id

-- "Entering puts the marker at its place by id and moves the later ones up by one." What stands
-- past the count, but for the one slot that is taken, stays.
pub record Entered (list : List Marker) (count : ℕ) (m : Marker) (after : List Marker) : Type 0 where
  pub place : ℕ
  pub within : place ≤ count
  pub lower : (k : ℕ) → k < place → (slot list k).id < m.id
  pub higher : (k : ℕ) → place ≤ k → k < count → m.id < (slot list k).id
  pub size : length after ≡ length list
  pub before : (k : ℕ) → k < place → slot after k ≡ slot list k
  pub put : slot after place ≡ m
  pub moved : (k : ℕ) → place ≤ k → k < count → slot after (k + 1) ≡ slot list k
  pub rest : (k : ℕ) → count < k → slot after k ≡ slot list k

-- "Clearing moves the later ones down and sets the one slot so freed to zeros."
pub record Cleared (list : List Marker) (count id : ℕ) (after : List Marker) : Type 0 where
  pub place : ℕ
  pub below : place < count
  pub is : (slot list place).id ≡ id
  pub size : length after ≡ length list
  pub before : (k : ℕ) → k < place → slot after k ≡ slot list k
  pub moved : (k : ℕ) → place ≤ k → k + 1 < count → slot after k ≡ slot list (k + 1)
  pub freed : (k : ℕ) → k + 1 ≡ count → slot after k ≡ blank
  pub rest : (k : ℕ) → count ≤ k → slot after k ≡ slot list k

-- The markers in use.
abbrev pub in_use_of : List Marker → ℕ → List Marker
in_use_of list count = take count list

-- Two markers are one and the same: equal ids, on one crossing, of one height.
pub record Same (m n : Marker) : Type 0 where
  pub id : m.id ≡ n.id
  pub x : m.x ≡ n.x
  pub y : m.y ≡ n.y
  pub height : m.height ≡ n.height

-- How often a marker stands in a list.
pub data Times (m : Marker) : List Marker → ℕ → Type 0 where
  none : Times m [] 0
  here : {k : Marker} {ks : List Marker} {n t : ℕ} → Same k m → Times m ks n → t ≡ n + 1 → Times m (k ∷ ks) t
  other : {k : Marker} {ks : List Marker} {n : ℕ} → ¬ Same k m → Times m ks n → Times m (k ∷ ks) n
