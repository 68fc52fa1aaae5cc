-- "Slots past the count are never read": two lists that agree on the slots in use get the same
-- answers and leave the same bytes. What a call says of a list it says of the markers in use, and
-- of whether the count passes the list lent.
use Rattle.std.specs.Prelude.{◌≡◌, List, [], ◌∷◌, ◌++◌, ℕ, ◌+◌, ◌≤◌, length, take, drop}
use Rattle.std.proofs.Common.{sym, ap, ◌∙◌, inl, inr, arith, take_at}
use Rattle.std.proofs.Math.Decide.{ℕ_discrete}
use Rattle.field.specs.declared.Marker.{Marker}
use Rattle.mapfile.specs.File.{markers_of}
use Rattle.calls.specs.Rules
use Rattle.calls.specs.Rules.{LentMap, RocksOf, Rule, Gives, gives_one}
use Rattle.calls.specs.Answers.{no_count, MapRead}
use Rattle.calls.specs.RuleLaws.{gives_none, formed_holds}
use Rattle.calls.specs.Calls.{
  EnterCall,
  ClearCall,
  LabelCall,
  DistancesCall,
  MeasureCall,
  AssuredCall,
  HopCall,
  RegionCall,
  DriveCall,
  RouteCall,
  ReadCall,
  WriteCall,
}
use Rattle.calls.specs.Agree.{
  Agree,
  within,
  agree_slots,
  agree_in_use,
  used_moved,
  shared_moved,
  asked_moved,
  asked_in_use,
  with_list,
  labels_moved,
  sheet_moved,
  region_moved,
  route_moved,
  listed_moved,
  entered_agree,
  cleared_agree,
}
use Rattle.calls.specs.OutcomeLaws.{counted_same, refused_one}
use Rattle.calls.specs.Sequences.{GoesOn}
use Rattle.calls.proofs.ListCalls.{enter_passed, clear_formed}
use Rattle.calls.specs.declared.Counted.{Counted}
use Rattle.calls.specs.declared.Labelling.{Labelling}
use Rattle.calls.specs.declared.Four.{Four}
use Rattle.calls.specs.declared.Assurance.{Assurance}
use Rattle.calls.specs.declared.Homeward.{Homeward}
use Rattle.calls.specs.declared.Drove.{Drove}
use Rattle.calls.specs.declared.ReadMap.{ReadMap}
use Rattle.calls.specs.declared.WroteMap.{WroteMap}

module _ {m : LentMap} {other : List Marker} (a : Agree m.list other m.count) where
  pub label_unread : {labels labels' : List ℕ} {r : Labelling} → LabelCall m labels labels' r → LabelCall (with_list m other) labels labels' r
  label_unread c =
      record {
        given = asked_moved m a c.given (λ e g. g);
        labels_after = labels_moved m a c.given c.labels_after;
        refused = c.refused;
        done = λ z. rw (asked_in_use m a c.given (λ t. omega arith)) at (c.done z);
      }

  pub distances_unread : {x y : ℕ} {labels labels' : List ℕ} {r : Four} → DistancesCall m x y labels labels' r → DistancesCall (with_list m other) x y labels labels' r
  distances_unread c =
      record {
        given = asked_moved m a c.given (λ e g. g);
        labels_after = labels_moved m a c.given c.labels_after;
        refused = c.refused;
        done = λ z. rw (asked_in_use m a c.given (λ t. omega arith)) at (c.done z);
      }

  pub measure_unread : {labels e s f n labels' e' s' f' n' : List ℕ} {r : ℕ} → MeasureCall m labels e s f n labels' e' s' f' n' r
      → MeasureCall (with_list m other) labels e s f n labels' e' s' f' n' r
  measure_unread c =
      record {
        given = asked_moved m a c.given (λ e g. g);
        labels_after = labels_moved m a c.given c.labels_after;
        east_after = sheet_moved m a c.given c.east_after;
        south_after = sheet_moved m a c.given c.south_after;
        west_after = sheet_moved m a c.given c.west_after;
        north_after = sheet_moved m a c.given c.north_after;
      }

  pub assured_unread : {hx hy x y : ℕ} {labels labels' : List ℕ} {r : Assurance} → AssuredCall m hx hy x y labels labels' r → AssuredCall (with_list m other) hx hy x y labels labels' r
  assured_unread c =
      record {
        given = asked_moved m a c.given (λ e g. rw e at g);
        labels_after = labels_moved m a c.given c.labels_after;
        refused = c.refused;
        done = λ z. rw (asked_in_use m a c.given (λ t. omega arith)) at (c.done z);
      }

  pub hop_unread : {hx hy x y : ℕ} {labels labels' : List ℕ} {r : Homeward} → HopCall m hx hy x y labels labels' r → HopCall (with_list m other) hx hy x y labels labels' r
  hop_unread c =
      record {
        given = asked_moved m a c.given (λ e g. rw e at g);
        labels_after = labels_moved m a c.given c.labels_after;
        refused = c.refused;
        done = λ z. rw (asked_in_use m a c.given (λ t. omega arith)) at (c.done z);
      }

  pub region_unread : {sx sy dx dy : ℕ} {labels region labels' region' : List ℕ} {r : ℕ} → RegionCall m sx sy dx dy labels region labels' region' r
      → RegionCall (with_list m other) sx sy dx dy labels region labels' region' r
  region_unread c =
      record {
        given = asked_moved m a c.given (λ e g. rw e at g);
        labels_after = labels_moved m a c.given c.labels_after;
        region_after = region_moved m a c.given c.region_after;
      }

  pub drive_unread : {sx sy dx dy : ℕ} {labels region route labels' region' route' : List ℕ} {state state' : ℕ} {r : Drove}
      → DriveCall m sx sy dx dy labels region route state labels' region' route' state' r
      → DriveCall (with_list m other) sx sy dx dy labels region route state labels' region' route' state' r
  drive_unread c =
      record {
        given = asked_moved m a c.given (λ e g. rw e at g);
        labels_after = labels_moved m a c.given c.labels_after;
        region_after = region_moved m a c.given c.region_after;
        route_after = route_moved m a c.given c.route_after;
      }

  pub route_unread : {sx sy dx dy : ℕ} {labels region route labels' region' part : List ℕ} {state number state' : ℕ} {from at : ℕ × ℕ}
      → RouteCall m sx sy dx dy labels region route state labels' region' part number state' from at
      → RouteCall (with_list m other) sx sy dx dy labels region route state labels' region' part number state' from at
  route_unread c =
      record {
        given = asked_moved m a c.given (λ e g. rw e at g);
        labels_after = labels_moved m a c.given c.labels_after;
        region_after = region_moved m a c.given c.region_after;
        empty = c.empty;
        still = c.still;
        driven = λ z. rw (asked_in_use m a c.given (λ t. omega arith)) at (c.driven z);
        leading = c.leading;
      }

  pub write_unread : {out out' : List ℕ} {r : WroteMap} → WriteCall m out out' r → WriteCall (with_list m other) out out' r
  write_unread {out} {out'} {r} c =
      record {
        given = listed_moved m a c.given own;
        kept = c.kept;
        refused = c.refused;
        done = λ z. rw (agree_in_use a (lent_enough z)) at (c.done z);
      }
    where
      lent_enough : r.refusal ≡ 0 → m.count ≤ length m.list
      lent_enough z = (formed_holds (gives_none (Rules.write_table m out) 0 _ (omega arith) c.given z).1.0).lent

      rows : LentMap → List Rule
      rows k = Rules.shared_rule k ∷ Rules.output_rule m.width m.height (RocksOf k) out ∷ []

      own : m.count ≤ length m.list → Gives (rows m) r.refusal → Gives (rows (with_list m other)) r.refusal
      own l (inl p) = inl (shared_moved (agree_slots a l) p.0, p.1)
      own l (inr p) = inr (λ t. p.0 (shared_moved (λ k b. sym (agree_slots a l k b)) t), rw (agree_in_use a l) at p.1)

-- Entering and clearing: on two lists of one length that agree, the same answer, and after the call
-- they agree again. What they leave in the slots past the count is said by enter-rest and
-- clear-rest: every one, but that which entering takes, is as it was.
module _ {m next : LentMap} {other list' other' : List Marker} {r s : Counted} (long : length m.list ≡ length other) (a : Agree m.list other m.count)
    (o : GoesOn m list' r next) where
  pub enter_unread : {id x y height : ℕ} → EnterCall m id x y height list' r → EnterCall (with_list m other) id x y height other' s → (r ≡ s) × Agree list' other' next.count
  enter_unread {id} {x} {y} p q = go (ℕ_discrete r.refusal 0)
    where
      rows : LentMap → List Rule
      rows k = Rules.new_rule k id x y ∷ Rules.in_use_rule k id ∷ Rules.slot_rule k ∷ []

      own : {n : ℕ} → m.count ≤ length m.list → Gives (rows m) n → Gives (rows (with_list m other)) n
      own l (inl t) = inl t
      own l (inr (t, inl u)) = inr (t, inl (used_moved (agree_slots a l) u.0, u.1))
      own l (inr (t, inr (u, v))) = inr (t, inr (λ k. u (used_moved (λ i b. sym (agree_slots a l i b)) k), rw long at v))

      e : r.refusal ≡ s.refusal
      e = gives_one (Rules.enter_table (with_list m other) id x y) _ _ (listed_moved m a p.given own) q.given

      go : Dec (r.refusal ≡ 0) → (r ≡ s) × Agree list' other' next.count
      go (yes z) =
          let u = p.done z in
          let v = q.done (sym e ∙ z) in
          let f = enter_passed p z in
          let n : next.count ≡ m.count + 1 = ap (λ (k : LentMap). k.count) (o.new z) ∙ u.counted in (
            counted_same e (u.counted ∙ sym v.counted),
            within (omega (arith, f.room, u.list.size)) (omega (arith, f.room, v.list.size))
                (λ k l. entered_agree (agree_slots a f.formed.lent) u.list v.list k (omega arith)),
          )
      go (no z) =
          let z' : ¬ (s.refusal ≡ 0) = λ k. z (e ∙ k) in
          (refused_one no_count e (p.refused z) (q.refused z'), rw (p.kept z, q.kept z', o.old z) a)

  pub clear_unread : {id : ℕ} → ClearCall m id list' r → ClearCall (with_list m other) id other' s → (r ≡ s) × Agree list' other' next.count
  clear_unread {id} p q = go (ℕ_discrete r.refusal 0)
    where
      own : {n : ℕ} → m.count ≤ length m.list → Gives (Rules.not_in_use_rule m id ∷ []) n → Gives (Rules.not_in_use_rule (with_list m other) id ∷ []) n
      own l (inl t) = inl (λ u. t.0 (used_moved (λ i b. sym (agree_slots a l i b)) u), t.1)
      own l (inr t) = inr (λ u. t.0 (λ k. u (used_moved (agree_slots a l) k)), t.1)

      e : r.refusal ≡ s.refusal
      e = gives_one (Rules.clear_table (with_list m other) id) _ _ (listed_moved m a p.given own) q.given

      go : Dec (r.refusal ≡ 0) → (r ≡ s) × Agree list' other' next.count
      go (yes z) =
          let u = p.done z in
          let v = q.done (sym e ∙ z) in
          let f = clear_formed p z in
          let n : next.count + 1 ≡ m.count = ap (λ (k : LentMap). k.count + 1) (o.new z) ∙ u.counted in (
            counted_same e (omega (arith, u.counted, v.counted)),
            within (omega (arith, f.lent, u.list.size)) (omega (arith, f.lent, v.list.size))
                (cleared_agree f.rising (agree_slots a f.lent) u.list v.list n),
          )
      go (no z) =
          let z' : ¬ (s.refusal ≡ 0) = λ k. z (e ∙ k) in
          (refused_one no_count e (p.refused z) (q.refused z'), rw (p.kept z, q.kept z', o.old z) a)

-- Reading a map file reads no slot at all: any list of the same length gets the same answer and the
-- same markers, and keeps its own other slots.
pub read_unread : {file : List ℕ} {list other list' : List Marker} {r : ReadMap} → length list ≡ length other → ReadCall file list list' r
    → ReadCall file other (take r.count list' ++ drop r.count other) r
read_unread {file} {list} {other} {list'} {r} long c =
    record {
      given = λ z. rw long at (c.given z);
      kept = λ z. rw (ap (λ (a : ReadMap). a.count) (c.refused z));
      refused = c.refused;
      done = λ z. let u = c.done z in
          record {
            bits = u.bits;
            map = u.map;
            counted = u.counted;
            room = rw long at u.room;
            slots = ap (λ (l : List Marker). l ++ drop r.count other) (front u);
          };
    }
  where
    front : (u : MapRead file list list' r) → take r.count list' ≡ markers_of r.width r.height u.bits
    front u =
        ap (take r.count) u.slots
        ∙ take_at (markers_of r.width r.height u.bits) (drop r.count list) r.count (sym u.counted)
