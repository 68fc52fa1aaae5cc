-- What is proved of the call that tells how many sweeps the labelling takes: the refusals exactly,
-- one outcome, no slot read past the count; the last state is what the label sheet shows closed,
-- the number is never more than the shut crossings, and 0 exactly with none.
use Rattle.std.specs.Prelude.{◌≡◌, List, ◌↔◌, ℕ, ◌≤◌}
use Rattle.std.proofs.Common.{sym, ◌∙◌, arith}
use Rattle.std.proofs.Math.Decide.{ℕ_discrete}
use Rattle.field.specs.declared.Marker.{Marker}
use Rattle.field.specs.Labels.{RockOn, Shut}
use Rattle.field.specs.Sweeps.{State}
use Rattle.field.proofs.SweepLaws
use Rattle.field.specs.Workings.Sheet.{Marked}
use Rattle.field.proofs.Workings.Marks.{drawn_dec}
use Rattle.field.proofs.Workings.Stamping.{stamp_draws}
use Rattle.field.proofs.Workings.Labelling.{label_sheet_draws}
use Rattle.calls.specs.Rules.{gives_one, LentMap, markers_in, RocksOf}
use Rattle.calls.specs.RuleLaws.{Exactly, exactly}
use Rattle.calls.specs.Calls.{LabelCall}
use Rattle.calls.specs.OutcomeLaws.{labels_after_one, refused_one}
use Rattle.calls.specs.Agree.{Agree, with_list, asked_moved, asked_in_use, labels_moved}
use Rattle.calls.specs.SweepsCall.{sweeps_table, no_sweeps, SweepsCall}
use Rattle.calls.specs.declared.Labelling.{Labelling}
use Rattle.calls.specs.declared.Swept.{Swept}

module _ {m : LentMap} {labels : List ℕ} where
  -- Each refusal is given exactly on its occasion: 1, 2 and 3, and no other.
  pub sweeps_exactly : {labels' : List ℕ} {r : Swept} → SweepsCall m labels labels' r → Exactly (sweeps_table m labels) r.refusal
  sweeps_exactly c = exactly (sweeps_table m labels) _ (omega arith) c.given

  -- One outcome: one answer, and one label sheet.
  pub sweeps_one : {a b : List ℕ} {r s : Swept} → SweepsCall m labels a r → SweepsCall m labels b s → (r ≡ s) × (a ≡ b)
  sweeps_one {a} {b} {r} {s} p q = (go (ℕ_discrete r.refusal 0), labels_after_one e p.labels_after q.labels_after)
    where
      e : r.refusal ≡ s.refusal
      e = gives_one (sweeps_table m labels) _ _ p.given q.given

      go : Dec (r.refusal ≡ 0) → r ≡ s
      go (yes z) =
          let k : r.sweeps ≡ s.sweeps = SweepLaws.sweeps_one (RocksOf m) m.width m.height _ _ (p.done z) (q.done (sym e ∙ z)) in
          λ i. record { refusal = e i; sweeps = k i }
      go (no z) = refused_one no_sweeps e (p.refused z) (q.refused (λ k. z (e ∙ k)))

-- "Slots past the count are never read".
pub sweeps_unread : {m : LentMap} {other : List Marker} {labels labels' : List ℕ} {r : Swept} → Agree m.list other m.count
    → SweepsCall m labels labels' r → SweepsCall (with_list m other) labels labels' r
sweeps_unread {m} a c =
    record {
      given = asked_moved m a c.given (λ e g. g);
      labels_after = labels_moved m a c.given c.labels_after;
      refused = c.refused;
      done = λ z. rw (asked_in_use m a c.given (λ t. omega arith)) at (c.done z);
    }

-- A call that was not refused.
module _ {m : LentMap} {labels labels' : List ℕ} {r : Swept} (c : SweepsCall m labels labels' r) (z : r.refusal ≡ 0) where
  rocks_dec : (x y : ℕ) → Dec (RockOn (RocksOf m) m.width m.height x y)
  rocks_dec =
      drawn_dec m.width m.height (RockOn (RocksOf m) m.width m.height) _ (stamp_draws m.clearance m.width m.height (markers_in m))

  -- "the last state is the labelling": after so many sweeps those crossings are closed that the
  -- label sheet shows closed.
  pub sweeps_last_state : (x y : ℕ) → State (RocksOf m) m.width m.height r.sweeps x y ↔ Marked labels' m.width m.height x y
  sweeps_last_state x y =
      let d = label_sheet_draws (RocksOf m) m.width m.height labels' (c.labels_after.labelled (λ t. omega arith)) in
      let k = SweepLaws.last_state (RocksOf m) m.width m.height r.sweeps (c.done z) x y in
      (λ p. d.complete x y (k.0 p), λ p. k.1 (d.sound x y p))

  -- "it is never more than the shut crossings", as the label call counts them.
  pub sweeps_at_most : {sheet sheet' : List ℕ} {q : Labelling} → LabelCall m sheet sheet' q → q.refusal ≡ 0 → r.sweeps ≤ q.shut
  sweeps_at_most {q = q} k e =
      SweepLaws.sweeps_at_most_shut (RocksOf m) m.width m.height rocks_dec r.sweeps (c.done z) q.shut (k.done e).shut

  -- "With nothing shut it is 0", and not otherwise.
  pub sweeps_none : (r.sweeps ≡ 0) ↔ ((x y : ℕ) → ¬ Shut (RocksOf m) m.width m.height x y)
  sweeps_none = SweepLaws.none_shut (RocksOf m) m.width m.height rocks_dec r.sweeps (c.done z)
