-- What is proved of the call that checks a drawn list: the refusals exactly, one outcome, no slot
-- read past the count; a list is accepted exactly if it is a shortest drive, an accepted one lies
-- in the region, and every drive that the layer makes is accepted.
use Rattle.std.specs.Prelude.{◌≡◌, refl, List, [], ◌↔◌, ◌⊎◌, ℕ, ◌*◌, length, take}
use Rattle.std.proofs.Common.{sym, ◌∙◌, inl, inr, arith}
use Rattle.std.proofs.Math.Decide.{ℕ_discrete}
use Rattle.field.specs.declared.Marker.{Marker}
use Rattle.field.specs.Reasons.{no_fault}
use Rattle.field.specs.Labels.{Open}
use Rattle.field.specs.Drives.{ShortestDrive, InRegion}
use Rattle.field.specs.Checks.{Has, Finds, accepted, at_fault}
use Rattle.field.proofs.Checked.{accepted_exactly, accepted_region, finds_exactly, finds_one}
use Rattle.field.proofs.Workings.DriveLaws.{drive_open, drive_open_end}
use Rattle.calls.specs.Rules
use Rattle.calls.specs.Rules.{gives_one, LentMap, Sized, OnIt, Formed, ClosedBy, AnEndClosed}
use Rattle.calls.specs.RuleLaws.{Exactly, exactly, gives_none, none_gives, sheets_fit}
use Rattle.calls.specs.Calls.{DriveCall, RouteCall}
use Rattle.calls.specs.OutcomeLaws.{labels_after_one, refused_one}
use Rattle.calls.specs.Agree.{Agree, with_list, asked_moved, asked_in_use, labels_moved}
use Rattle.calls.proofs.DriveCalls.{drive_shortest, route_shortest}
use Rattle.calls.specs.CheckCall.{check_table, no_check, finding, CheckCall}
use Rattle.calls.specs.declared.Checked.{Checked}
use Rattle.calls.specs.declared.Drove.{Drove}

module _ {m : LentMap} {sx sy dx dy : ℕ} {labels drawn : List ℕ} where
  -- Each refusal is given exactly on its occasion: 1, 2, 3, 4 and 8, and no other.
  pub check_exactly : {labels' : List ℕ} {r : Checked} → CheckCall m sx sy dx dy labels drawn labels' r → Exactly (check_table m sx sy dx dy labels) r.refusal
  check_exactly c = exactly (check_table m sx sy dx dy labels) _ (omega arith) c.given

  -- One outcome: one answer, and one label sheet.
  pub check_one : {a b : List ℕ} {r s : Checked} → CheckCall m sx sy dx dy labels drawn a r → CheckCall m sx sy dx dy labels drawn b s → (r ≡ s) × (a ≡ b)
  check_one {a} {b} {r} {s} p q = (go (ℕ_discrete r.refusal 0), labels_after_one e p.labels_after q.labels_after)
    where
      e : r.refusal ≡ s.refusal
      e = gives_one (check_table m sx sy dx dy labels) _ _ p.given q.given

      go : Dec (r.refusal ≡ 0) → r ≡ s
      go (yes z) =
          let k : finding r ≡ finding s = finds_one m.width m.height (ClosedBy m) sx sy dx dy drawn (p.done z) (q.done (sym e ∙ z)) in
          λ i. record { refusal = e i; reason = (k i).reason; position = (k i).position }
      go (no z) = refused_one no_check e (p.refused z) (q.refused (λ k. z (e ∙ k)))

-- "Slots past the count are never read".
pub check_unread : {m : LentMap} {other : List Marker} {sx sy dx dy : ℕ} {labels drawn labels' : List ℕ} {r : Checked} → Agree m.list other m.count
    → CheckCall m sx sy dx dy labels drawn labels' r → CheckCall (with_list m other) sx sy dx dy labels drawn labels' r
check_unread {m} a c =
    record {
      given = asked_moved m a c.given (λ e g. rw e at g);
      labels_after = labels_moved m a c.given c.labels_after;
      refused = c.refused;
      done = λ z. rw (asked_in_use m a c.given (λ t. omega arith)) at (c.done z);
    }

-- A call that was not refused.
module _ {m : LentMap} {sx sy dx dy : ℕ} {labels drawn labels' : List ℕ} {r : Checked} (c : CheckCall m sx sy dx dy labels drawn labels' r) (z : r.refusal ≡ 0) where
  -- "accepts a drawn list exactly if it is a shortest drive from s to d as document 01 defines it"
  pub check_accepts : (r.reason ≡ no_fault) ↔ ShortestDrive m.width m.height (ClosedBy m) sx sy dx dy drawn
  check_accepts = finds_exactly m.width m.height (ClosedBy m) sx sy dx dy drawn (c.done z)

  -- "Whoever drew it, an accepted list is right": it lies in the region throughout.
  pub check_region : r.reason ≡ no_fault → (p x y : ℕ) → Has m.width m.height drawn p x y → InRegion m.width m.height (ClosedBy m) sx sy dx dy x y
  check_region e =
      accepted_region m.width m.height (ClosedBy m) sx sy dx dy drawn
      ((accepted_exactly m.width m.height (ClosedBy m) sx sy dx dy drawn).1 (check_accepts.0 e))

-- A shortest drive, checked over a map of document 01's size with a well-formed list: nothing is
-- refused, and nothing found.
module _ {m : LentMap} {sx sy dx dy : ℕ} {sheet drawn sheet' : List ℕ} {q : Checked} (sides : ¬ ¬ Sized m) (formed : ¬ ¬ Formed m)
    (fits : length sheet ≡ m.height * m.width) (v : ShortestDrive m.width m.height (ClosedBy m) sx sy dx dy drawn)
    (c : CheckCall m sx sy dx dy sheet drawn sheet' q) where
  from : Open m.width m.height (ClosedBy m) sx sy
  from = drive_open m.width m.height (ClosedBy m) v.drive

  to : Open m.width m.height (ClosedBy m) dx dy
  to = drive_open_end m.width m.height (ClosedBy m) v.drive

  shortest_not_refused : q.refusal ≡ 0
  shortest_not_refused =
      gives_one (check_table m sx sy dx dy sheet) _ _ c.given
      (none_gives (check_table m sx sy dx dy sheet) 0 refl (sides, (sheets_fit m.width m.height sheet [] fits (λ n. n), (formed, (places, (ends, tt))))))
    where
      places : ¬ ((¬ OnIt m sx sy) ⊎ (¬ OnIt m dx dy))
      places (inl n) = n from.on
      places (inr n) = n to.on

      ends : ¬ AnEndClosed (ClosedBy m) sx sy dx dy
      ends (inl n) = from.free n
      ends (inr n) = to.free n

  pub shortest_passes : q ≡ no_check 0
  shortest_passes = go (c.done shortest_not_refused)
    where
      go : Finds m.width m.height (ClosedBy m) sx sy dx dy drawn (finding q) → q ≡ no_check 0
      go (accepted a f i) = λ j. record { refusal = shortest_not_refused j; reason = f j; position = i j }
      go (at_fault f) = absurd (f.some ((check_accepts c shortest_not_refused).1 v))

-- "every drive that our own layer makes is accepted over the same map and the same rocks", whatever
-- state it was drawn from: the check of the route's front, or of the part that is handed back, is
-- not refused, and finds nothing at fault.
module _ {m : LentMap} {sx sy dx dy : ℕ} {labels region route labels' region' : List ℕ} {state state' : ℕ} {sheet sheet' : List ℕ} {q : Checked}
    (fits : length sheet ≡ m.height * m.width) where
  pub drive_accepted : {route' : List ℕ} {r : Drove} → DriveCall m sx sy dx dy labels region route state labels' region' route' state' r → r.refusal ≡ 0
      → CheckCall m sx sy dx dy sheet (take r.length route') sheet' q → q ≡ no_check 0
  drive_accepted {r = r} d z =
      let t = gives_none (Rules.drive_table m sx sy dx dy labels region route) 0 r.refusal (omega arith) d.given z in
      shortest_passes t.0 t.1.1.0 fits (drive_shortest d z)

  pub route_accepted : {part : List ℕ} {number : ℕ} {from at : ℕ × ℕ} → RouteCall m sx sy dx dy labels region route state labels' region' part number state' from at
      → number ≡ 0 → CheckCall m sx sy dx dy sheet part sheet' q → q ≡ no_check 0
  route_accepted {number = number} d z =
      let t = gives_none (Rules.drive_table m sx sy dx dy labels region route) 0 number (omega arith) d.given z in
      shortest_passes t.0 t.1.1.0 fits (route_shortest d z)
