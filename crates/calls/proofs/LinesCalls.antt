-- What is proved of the crossing-lines test and of the drive that it yields: the refusals exactly,
-- one outcome, no slot read past the count; a yes has a shortest drive, the drive is one, it goes
-- by way of the lines that the test hands back, and the check of drawn lists accepts it.
use Rattle.std.specs.Prelude.{◌≡◌, refl, Bool, true, false, List, ◌↔◌, ◌⊎◌, ℕ, ◌*◌, length, take}
use Rattle.std.proofs.Common.{sym, subst₂, ◌∙◌, inl, inr, arith}
use Rattle.std.proofs.Math.Decide.{ℕ_discrete}
use Rattle.field.specs.declared.Marker.{Marker}
use Rattle.field.specs.Refusals.{no_lines}
use Rattle.field.specs.Labels.{Open}
use Rattle.field.specs.Drives.{ShortestDrive, HasDrive}
use Rattle.field.specs.CrossingLines.{HasLines, DrivenBy}
use Rattle.field.proofs.Workings.Labelling.{label_sheet_draws}
use Rattle.field.proofs.Workings.Marks.{drawn_dec}
use Rattle.field.proofs.Geometry.LinesLaws
use Rattle.field.proofs.Geometry.LinesLaws.{lines_yes}
use Rattle.field.proofs.Geometry.Theorems
use Rattle.calls.specs.Rules.{gives_one, LentMap, OnIt, RocksOf, ClosedBy, AnEndClosed}
use Rattle.calls.specs.RuleLaws.{None, Exactly, exactly, exactly_listed, gives_none, sides_hold, on_holds}
use Rattle.calls.specs.Answers.{LabelsAfter}
use Rattle.calls.specs.OutcomeLaws.{labels_after_one, refused_one, drove_same, lines_told_one, lines_region_after_one, joined_after_one, both_true}
use Rattle.calls.specs.Agree.{Agree, with_list, asked_moved, asked_in_use, labels_moved, lines_region_moved, joined_moved}
use Rattle.calls.specs.DriveCalls.{BetweenOpen}
use Rattle.calls.proofs.DriveCalls.{earlier}
use Rattle.calls.specs.CheckCall.{no_check, CheckCall}
use Rattle.calls.proofs.CheckCalls.{shortest_passes}
use Rattle.calls.specs.LinesCall.{lines_table, lines_drive_table, no_lines_told, LinesTold, LinesCall, LinesDriveCall}
use Rattle.calls.specs.declared.CrossingLines.{CrossingLines}
use Rattle.calls.specs.declared.Checked.{Checked}
use Rattle.calls.specs.declared.Drove.{Drove}

-- The test.
module _ {m : LentMap} {sx sy dx dy : ℕ} {labels : List ℕ} where
  -- Each refusal is given exactly on its occasion: 1, 2, 3, 4 and 8, and no other.
  pub lines_exactly : {labels' : List ℕ} {r : CrossingLines} → LinesCall m sx sy dx dy labels labels' r → Exactly (lines_table m sx sy dx dy labels) r.refusal
  lines_exactly c = exactly (lines_table m sx sy dx dy labels) _ (omega arith) c.given

  -- One outcome: one answer, and one label sheet.
  pub lines_one : {a b : List ℕ} {r s : CrossingLines} → LinesCall m sx sy dx dy labels a r → LinesCall m sx sy dx dy labels b s → (r ≡ s) × (a ≡ b)
  lines_one {a} {b} {r} {s} p q = (go (ℕ_discrete r.refusal 0), labels_after_one e p.labels_after q.labels_after)
    where
      e : r.refusal ≡ s.refusal
      e = gives_one (lines_table m sx sy dx dy labels) _ _ p.given q.given

      go : Dec (r.refusal ≡ 0) → r ≡ s
      go (yes z) = lines_told_one r s e (p.done z) (q.done (sym e ∙ z))
      go (no z) = refused_one no_lines_told e (p.refused z) (q.refused (λ k. z (e ∙ k)))

-- The drive.
module _ {m : LentMap} {sx sy dx dy : ℕ} {labels region route : List ℕ} where
  -- Each refusal is given exactly on its occasion: 1, 2, 3, 4, 8, 19 and 10, and no other; 19 comes
  -- before 10.
  pub lines_drive_exactly : {labels' region' route' : List ℕ} {state state' : ℕ} {r : Drove}
      → LinesDriveCall m sx sy dx dy labels region route state labels' region' route' state' r
      → Exactly (lines_drive_table m sx sy dx dy labels region route) r.refusal
  lines_drive_exactly c = exactly_listed (lines_drive_table m sx sy dx dy labels region route) _ (omega arith) c.given

  -- One outcome: one answer, one of each sheet, one route and one state.
  pub lines_drive_one : {a c i b d j : List ℕ} {state z z' : ℕ} {r s : Drove}
      → LinesDriveCall m sx sy dx dy labels region route state a c i z r → LinesDriveCall m sx sy dx dy labels region route state b d j z' s
      → (r ≡ s) × (a ≡ b) × (c ≡ d) × (i ≡ j) × (z ≡ z')
  lines_drive_one {r = r} {s = s} p q =
      let e : r.refusal ≡ s.refusal = gives_one (lines_drive_table m sx sy dx dy labels region route) _ _ p.given q.given in
      let t = joined_after_one e p.route_after q.route_after in (
        drove_same e t.0,
        labels_after_one e p.labels_after q.labels_after,
        lines_region_after_one e p.region_after q.region_after,
        t.1,
        t.2,
      )

-- "Slots past the count are never read".
module _ {m : LentMap} {other : List Marker} (a : Agree m.list other m.count) {sx sy dx dy : ℕ} where
  pub lines_unread : {labels labels' : List ℕ} {r : CrossingLines} → LinesCall m sx sy dx dy labels labels' r → LinesCall (with_list m other) sx sy dx dy labels labels' r
  lines_unread c =
      record {
        given = asked_moved m a c.given (λ e g. rw e at g);
        labels_after = labels_moved m a c.given c.labels_after;
        refused = c.refused;
        done = λ z. rw (asked_in_use m a c.given (λ t. omega arith)) at (c.done z);
      }

  pub lines_drive_unread : {labels region route labels' region' route' : List ℕ} {state state' : ℕ} {r : Drove}
      → LinesDriveCall m sx sy dx dy labels region route state labels' region' route' state' r
      → LinesDriveCall (with_list m other) sx sy dx dy labels region route state labels' region' route' state' r
  lines_drive_unread c =
      record {
        given = asked_moved m a c.given (λ e g. rw e at g);
        labels_after = labels_moved m a c.given c.labels_after;
        region_after = lines_region_moved m a c.given c.region_after;
        route_after = joined_moved m a c.given c.route_after;
      }

-- Places that rows 4 and 8 pass are open.
module _ (m : LentMap) {sx sy dx dy : ℕ} (places : ¬ ((¬ OnIt m sx sy) ⊎ (¬ OnIt m dx dy))) (ends : ¬ AnEndClosed (ClosedBy m) sx sy dx dy) where
  from_open : Open m.width m.height (ClosedBy m) sx sy
  from_open = record { on = on_holds (λ n. places (inl n)); free = λ k. ends (inl k) }

  to_open : Open m.width m.height (ClosedBy m) dx dy
  to_open = record { on = on_holds (λ n. places (inr n)); free = λ k. ends (inr k) }

-- By the label sheet it can be told of each crossing whether it is closed.
labels_tell : (m : LentMap) {n : ℕ} {labels labels' : List ℕ} → LabelsAfter (RocksOf m) m.width m.height n labels labels' → n ≡ 0
    → (x y : ℕ) → Dec (ClosedBy m x y)
labels_tell m {labels' = labels'} l z =
    drawn_dec m.width m.height (ClosedBy m) labels' (label_sheet_draws (RocksOf m) m.width m.height labels' (l.labelled (λ t. omega (arith, t.0))))

-- The test says yes exactly where there are such lines.
told : {w h : ℕ} {C : ℕ → ℕ → Type 0} {sx sy dx dy : ℕ} {r : CrossingLines} → LinesTold w h C sx sy dx dy r → (r.yes ≡ true) ↔ HasLines w h C sx sy dx dy
told {w} {h} {C} {sx} {sy} {dx} {dy} {r} k = (λ e. lines_yes (k.lines e), λ t. go r.yes refl t)
  where
    go : (b : Bool) → r.yes ≡ b → HasLines w h C sx sy dx dy → r.yes ≡ true
    go true e t = e
    go false e t = absurd (k.none e t)

pub lines_yes_exactly : {m : LentMap} {sx sy dx dy : ℕ} {labels labels' : List ℕ} {r : CrossingLines} → LinesCall m sx sy dx dy labels labels' r
    → r.refusal ≡ 0 → (r.yes ≡ true) ↔ HasLines m.width m.height (ClosedBy m) sx sy dx dy
lines_yes_exactly c z = told (c.done z)

-- "Show that a yes always has a shortest drive".
pub lines_have_drive : {m : LentMap} {sx sy dx dy : ℕ} {labels labels' : List ℕ} {r : CrossingLines} → LinesCall m sx sy dx dy labels labels' r
    → r.refusal ≡ 0 → r.yes ≡ true → HasDrive m.width m.height (ClosedBy m) sx sy dx dy
lines_have_drive {m} {sx} {sy} {dx} {dy} {labels} {r = r} c z e =
    let t = gives_none (lines_table m sx sy dx dy labels) 0 r.refusal (omega arith) c.given z in
    Theorems.lines_drive (RocksOf m) m.width m.height (sides_hold t.0) (labels_tell m c.labels_after z) sx sy dx dy
    (from_open m t.1.1.1.0 t.1.1.1.1.0) (to_open m t.1.1.1.0 t.1.1.1.1.0) (lines_yes ((c.done z).lines e))

-- A drive that was not refused.
module _ {m : LentMap} {sx sy dx dy : ℕ} {labels region route labels' region' route' : List ℕ} {state state' : ℕ} {r : Drove}
    (c : LinesDriveCall m sx sy dx dy labels region route state labels' region' route' state' r) (z : r.refusal ≡ 0) where
  passed : None (lines_drive_table m sx sy dx dy labels region route)
  passed = gives_none (lines_drive_table m sx sy dx dy labels region route) 0 r.refusal (omega arith) c.given z

  -- It is a shortest drive from s to d.
  pub lines_drive_shortest : ShortestDrive m.width m.height (ClosedBy m) sx sy dx dy (take r.length route')
  lines_drive_shortest =
      let j = c.route_after.driven z in
      Theorems.driven_by_shortest (RocksOf m) m.width m.height (sides_hold passed.0) (labels_tell m c.labels_after z) sx sy dx dy
      j.column j.row j.lines.column_open j.lines.row_open
      (from_open m passed.1.1.1.0 passed.1.1.1.1.0) (to_open m passed.1.1.1.0 passed.1.1.1.1.0) j.by

  -- "every drive that our own layer makes is accepted over the same map and the same rocks"
  -- (request 01): this one too.
  pub joined_accepted : {sheet sheet' : List ℕ} {q : Checked} → length sheet ≡ m.height * m.width
      → CheckCall m sx sy dx dy sheet (take r.length route') sheet' q → q ≡ no_check 0
  joined_accepted fits = shortest_passes passed.0 passed.1.1.0 fits lines_drive_shortest

  -- It goes by way of the crossing where the column and the row meet that the test hands back.
  pub lines_drive_meets : {sheet sheet' : List ℕ} {t : CrossingLines} → LinesCall m sx sy dx dy sheet sheet' t → t.refusal ≡ 0
      → (t.yes ≡ true) × DrivenBy m.width m.height (ClosedBy m) sx sy dx dy t.column t.row state (take r.length route') state'
  lines_drive_meets {t = t} k y =
      let j = c.route_after.driven z in
      let e = both_true t.yes true {P = HasLines m.width m.height (ClosedBy m) sx sy dx dy} (told (k.done y)) (λ _. lines_yes j.lines, λ _. refl) in
      let o = LinesLaws.lines_one j.lines ((k.done y).lines e) in
      (e, subst₂ (λ (u v : ℕ). DrivenBy m.width m.height (ClosedBy m) sx sy dx dy u v state (take r.length route') state') o.0 o.1 j.by)

-- Asked between open ends with nothing else amiss, the drive is refused by 19 exactly where there
-- are no such lines.
pub lines_drive_nineteen : {m : LentMap} {sx sy dx dy : ℕ} {labels region route labels' region' route' : List ℕ} {state state' : ℕ} {r : Drove}
    → BetweenOpen m sx sy dx dy labels region → LinesDriveCall m sx sy dx dy labels region route state labels' region' route' state' r
    → (r.refusal ≡ no_lines) ↔ (¬ HasLines m.width m.height (ClosedBy m) sx sy dx dy)
lines_drive_nineteen f c = let k = (lines_drive_exactly c).1.1.1.1.1.0 in (λ e. (k.0 e).0, λ n. k.1 (n, earlier f))
