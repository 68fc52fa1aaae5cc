-- Entering, clearing and reading as calls: what success shows of the list and the marker, what
-- stays, and that every sequence of calls comes to a list that sequences of entering and clearing
-- reach. A refused call changes nothing.
use Rattle.std.specs.Prelude.{◌≡◌, List, ℕ, ◌+◌, ◌<◌, ◌≤◌, length}
use Rattle.std.proofs.Common.{sym, ap, subst, ◌∙◌, inl, inr, arith}
use Rattle.std.proofs.Math.Decide.{dec_le, dec_lt, ℕ_discrete}
use Rattle.field.specs.declared.Marker.{Marker}
use Rattle.field.specs.Map.{most_markers}
use Rattle.markers.specs.List.{slot, InUse, in_use_of, Same, Times}
use Rattle.markers.specs.Promise.{marker}
use Rattle.markers.specs.Reached.{Reached}
use Rattle.markers.proofs.Laws.Times.{times_some, times_one, times_fresh, entered_other, entered_once, cleared_other, cleared_gone}
use Rattle.calls.specs.Rules
use Rattle.calls.specs.Rules.{LentMap, Formed, markers_in}
use Rattle.calls.specs.RuleLaws.{gives_none, holds, on_holds, formed_holds}
use Rattle.calls.specs.Calls.{EnterCall, ClearCall}
use Rattle.calls.specs.Sequences.{GoesOn, Calls, start, enter, clear, read, Sparing}
use Rattle.calls.specs.Sequences as sequences
use Rattle.calls.proofs.RoundLaws.{read_formed}
use Rattle.calls.specs.declared.Counted.{Counted}
use Rattle.calls.specs.ListCalls.{EnterPassed, MapReached, AsOften}

module _ {m : LentMap} {id x y height : ℕ} {list' : List Marker} {r : Counted} (c : EnterCall m id x y height list' r) where
  pub enter_passed : r.refusal ≡ 0 → EnterPassed m id x y
  enter_passed z =
      let t = gives_none (Rules.enter_table m id x y) 0 r.refusal (omega arith) c.given z in
      let new = t.1.1.0 in
      let slots = t.1.1.1.1.0 in
      record {
        formed = formed_holds t.1.0;
        on = on_holds (λ n. new (inl n));
        some_id = holds (dec_le 1 id) (λ n. new (inr (omega arith)));
        fresh = t.1.1.1.0;
        room = holds (dec_lt m.count (length m.list)) (λ n. slots (inl (omega arith)));
        few = holds (dec_lt m.count most_markers) (λ n. slots (inr (omega arith)));
      }

  -- Every slot past the one that entering takes is as it was.
  pub enter_rest : (k : ℕ) → m.count < k → slot list' k ≡ slot m.list k
  enter_rest k l = go (ℕ_discrete r.refusal 0)
    where
      go : Dec (r.refusal ≡ 0) → slot list' k ≡ slot m.list k
      go (yes z) = (c.done z).list.rest k l
      go (no z) = ap (λ (s : List Marker). slot s k) (c.kept z)

module _ {m : LentMap} {id : ℕ} {list' : List Marker} {r : Counted} (c : ClearCall m id list' r) where
  -- A list from which something is cleared is well formed.
  pub clear_formed : r.refusal ≡ 0 → Formed m
  clear_formed z = formed_holds (gives_none (Rules.clear_table m id) 0 r.refusal (omega arith) c.given z).1.0

  -- Every slot past the count is as it was.
  pub clear_rest : (k : ℕ) → m.count ≤ k → slot list' k ≡ slot m.list k
  clear_rest k l = go (ℕ_discrete r.refusal 0)
    where
      go : Dec (r.refusal ≡ 0) → slot list' k ≡ slot m.list k
      go (yes z) = (c.done z).list.rest k l
      go (no z) = ap (λ (s : List Marker). slot s k) (c.kept z)

-- An enter or clear call that succeeds is one step, a read map is a new start, and a call that is
-- refused is nothing.
pub calls_reached : {m : LentMap} → Calls m → MapReached m
calls_reached (start f) = Reached.start f
calls_reached (enter {m} {next} {after} id x y height r s c o) = go (calls_reached s) (ℕ_discrete r.refusal 0)
  where
    go : MapReached m → Dec (r.refusal ≡ 0) → MapReached next
    go t (yes z) =
        let p = enter_passed c z in
        let d = c.done z in
        subst MapReached (sym (o.new z))
        (Reached.enter (marker id x y height) t p.some_id p.on p.fresh p.room p.few d.list d.counted)
    go t (no z) = subst MapReached (sym (o.old z)) t
calls_reached (clear {m} {next} {after} id r s c o) = go (calls_reached s) (ℕ_discrete r.refusal 0)
  where
    go : MapReached m → Dec (r.refusal ≡ 0) → MapReached next
    go t (yes z) = let d = c.done z in subst MapReached (sym (o.new z)) (Reached.clear id t d.list d.counted)
    go t (no z) = subst MapReached (sym (o.old z)) t
calls_reached (read {m} {next} {after} file r s c o) = go (calls_reached s) (ℕ_discrete r.refusal 0)
  where
    go : MapReached m → Dec (r.refusal ≡ 0) → MapReached next
    go t (yes z) = subst MapReached (sym (o.new z)) (Reached.start (read_formed c z))
    go t (no z) = subst MapReached (sym (o.old z)) t

as_often : {k : Marker} {before after : List Marker} → ((t : ℕ) → Times k before t → Times k after t) → AsOften k before after
as_often {k} {before} {after} f t = (f t, λ p. let s = times_some k before in subst (Times k before) (times_one (f s.0 s.1) p) s.1)

same_often : {k : Marker} {m next : LentMap} → next ≡ m → AsOften k (markers_in m) (markers_in next)
same_often e t = rw e (λ p. p, λ p. p)

module _ {m next : LentMap} {id x y height : ℕ} {list' : List Marker} {r : Counted} (c : EnterCall m id x y height list' r) (o : GoesOn m list' r next) where
  -- The markers in use after a call that succeeds.
  enter_next : r.refusal ≡ 0 → markers_in next ≡ in_use_of list' (m.count + 1)
  enter_next z = ap markers_in (o.new z) ∙ ap (in_use_of list') (c.done z).counted

  pub enter_others : (k : Marker) → ¬ Same (marker id x y height) k → AsOften k (markers_in m) (markers_in next)
  enter_others k d = go (ℕ_discrete r.refusal 0)
    where
      go : Dec (r.refusal ≡ 0) → AsOften k (markers_in m) (markers_in next)
      go (yes z) =
          subst (λ (l : List Marker). AsOften k (markers_in m) l) (sym (enter_next z))
          (as_often (λ t. entered_other (enter_passed c z).room (c.done z).list d))
      go (no z) = same_often (o.old z)

  pub enter_once : r.refusal ≡ 0 → Times (marker id x y height) (markers_in next) 1
  enter_once z =
      let p = enter_passed c z in
      subst (λ (l : List Marker). Times (marker id x y height) l 1) (sym (enter_next z)) (entered_once p.room (c.done z).list p.fresh)

module _ {m next : LentMap} {id : ℕ} {list' : List Marker} {r : Counted} (c : ClearCall m id list' r) (o : GoesOn m list' r next) where
  pub clear_others : (k : Marker) → ¬ (k.id ≡ id) → AsOften k (markers_in m) (markers_in next)
  clear_others k d = go (ℕ_discrete r.refusal 0)
    where
      go : Dec (r.refusal ≡ 0) → AsOften k (markers_in m) (markers_in next)
      go (yes z) =
          let u = c.done z in
          subst (λ (n : LentMap). AsOften k (markers_in m) (markers_in n)) (sym (o.new z))
          (as_often (λ t. cleared_other r.count (clear_formed c z).lent u.list u.counted (λ s. d (sym s.id ∙ u.list.is))))
      go (no z) = same_often (o.old z)

  pub clear_none : r.refusal ≡ 0 → (k : Marker) → k.id ≡ id → Times k (markers_in next) 0
  clear_none z k e =
      let u = c.done z in
      let f = clear_formed c z in
      subst (λ (n : LentMap). Times k (markers_in n) 0) (sym (o.new z)) (cleared_gone r.count f.lent u.list u.counted f.rising k e)

-- A marker that stands in the list stands there once still, after any sequence of calls that spares
-- its id. Entering its id again is refused, since the id is in use.
pub spared : {m : LentMap} {k : Marker} {next : LentMap} → Times k (markers_in m) 1 → Sparing k.id m next → Times k (markers_in next) 1
spared p (sequences.Sparing.start e) = rw e p
spared {k = k} p (sequences.Sparing.enter {mid} {next} new x y height r s c o) = go (ℕ_discrete r.refusal 0) (spared p s)
  where
    go : Dec (r.refusal ≡ 0) → Times k (markers_in mid) 1 → Times k (markers_in next) 1
    go (yes z) t =
        let other : ¬ Same (marker new x y height) k =
        λ e. let none : ◌≡◌ {A = ℕ} 1 0 = times_one t (times_fresh (λ u. (enter_passed c z).fresh (subst (InUse mid.list mid.count) (sym e.id) u))) in omega arith in
        (enter_others c o k other 1).0 t
    go (no z) t = (same_often (o.old z) 1).0 t
spared {k = k} p (sequences.Sparing.clear old r d s c o) = (clear_others c o k d 1).0 (spared p s)
spared p (sequences.Sparing.read file r z s c o) = (same_often (o.old z) 1).0 (spared p s)
