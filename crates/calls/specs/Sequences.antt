-- What a caller makes of the calls, one after the other: a list by entering, clearing and reading,
-- and a cart's way home by asking for hops.
use Rattle.std.specs.Prelude.{◌≡◌, List, ◌⊎◌, ℕ, ◌+◌, ◌≤◌}
use Rattle.field.specs.declared.Marker.{Marker}
use Rattle.calls.specs.Rules.{LentMap, lent_map, Formed}
use Rattle.calls.specs.Answers.{read_map_lem}
use Rattle.calls.specs.Calls.{EnterCall, ClearCall, HopCall, ReadCall}
use Rattle.calls.specs.declared.Counted.{Counted}
use Rattle.calls.specs.declared.Homeward.{Homeward}
use Rattle.calls.specs.declared.ReadMap.{ReadMap}

-- What the caller goes on with after entering or clearing: the list as the call left it, with the
-- count that was handed back, on the same map; or what was lent, where the call was refused.
pub record GoesOn (m : LentMap) (after : List Marker) (r : Counted) (next : LentMap) : Type 0 where
  pub new : r.refusal ≡ 0 → next ≡ lent_map after r.count m.width m.height m.clearance
  pub old : ¬ (r.refusal ≡ 0) → next ≡ m

-- And after reading: the map that was read, with the count, the width and the height that were
-- handed back.
pub record GoesOnRead (m : LentMap) (after : List Marker) (r : ReadMap) (next : LentMap) : Type 0 where
  pub new : r.refusal ≡ 0 → next ≡ read_map_lem after r
  pub old : ¬ (r.refusal ≡ 0) → next ≡ m

-- What any sequence of enter, clear and read calls comes to, refused ones too, from any well-formed
-- list: such as one with nothing in use, whatever its slots hold.
pub data Calls : LentMap → Type 0 where
  start : {m : LentMap} → Formed m → Calls m
  enter : {m next : LentMap} {after : List Marker} (id x y height : ℕ) (r : Counted) → Calls m → EnterCall m id x y height after r → GoesOn m after r next
      → Calls next
  clear : {m next : LentMap} {after : List Marker} (id : ℕ) (r : Counted) → Calls m → ClearCall m id after r → GoesOn m after r next → Calls next
  read : {m next : LentMap} {after : List Marker} (file : List ℕ) (r : ReadMap) → Calls m → ReadCall file m.list after r → GoesOnRead m after r next
      → Calls next

-- Any sequence of such calls, refused ones too, that spares this id: none asks for it to be
-- cleared, and no map is read in place of the list, for each read is refused. From one lent map to
-- another.
pub data Sparing (id : ℕ) (m : LentMap) : LentMap → Type 0 where
  start : {next : LentMap} → next ≡ m → Sparing id m next
  enter : {mid next : LentMap} {after : List Marker} (new x y height : ℕ) (r : Counted) → Sparing id m mid → EnterCall mid new x y height after r
      → GoesOn mid after r next → Sparing id m next
  clear : {mid next : LentMap} {after : List Marker} (old : ℕ) (r : Counted) → ¬ (id ≡ old) → Sparing id m mid → ClearCall mid old after r
      → GoesOn mid after r next → Sparing id m next
  read : {mid next : LentMap} {after : List Marker} (file : List ℕ) (r : ReadMap) → ¬ (r.refusal ≡ 0) → Sparing id m mid
      → ReadCall file mid.list after r → GoesOnRead mid after r next → Sparing id m next

-- A hop call's answer names the crossing (a, b), as its first or as its second.
abbrev pub Names : Homeward → ℕ → ℕ → Type 0
Names r a b = ((1 ≤ r.hops) × (r.x ≡ a) × (r.y ≡ b)) ⊎ ((2 ≤ r.hops) × (r.a ≡ a) × (r.b ≡ b))

-- The answer is "there".
abbrev pub SaysThere : Homeward → Type 0
SaysThere r = r.hops ≡ 0

-- A cart that asks for hops home to (hx, hy) from (x, y), with its clearance, lends any label sheet
-- each time, and moves to any crossing that the answer names: after n hops it is at (a, b).
pub data Journey (m : LentMap) (hx hy x y : ℕ) : ℕ → ℕ → ℕ → Type 0 where
  start : {n a b : ℕ} → n ≡ 0 → a ≡ x → b ≡ y → Journey m hx hy x y n a b
  move : {n k a b c d : ℕ} {labels labels' : List ℕ} {r : Homeward} → Journey m hx hy x y n a b → HopCall m hx hy a b labels labels' r
      → r.refusal ≡ 0 → Names r c d → k ≡ n + 1 → Journey m hx hy x y k c d
