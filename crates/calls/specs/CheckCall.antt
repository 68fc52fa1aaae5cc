-- The promise of the call that checks a drawn list (request 01): its rules, its answer, and what it
-- leaves in the label sheet. The list drawn is only read.
use Rattle.std.specs.Prelude.{◌≡◌, List, [], ◌∷◌, ℕ}
use Rattle.field.specs.Checks.{Finding}
use Rattle.field.specs.Reasons.{no_fault}
use Rattle.field.specs.Checks.{Finds}
use Rattle.calls.specs.Rules
use Rattle.calls.specs.Rules.{Rule, Gives, LentMap, RocksOf, ClosedBy}
use Rattle.calls.specs.Answers.{LabelsAfter}
use Rattle.calls.specs.declared.Checked.{Checked}

-- "Ends are checked first: refusals 4 and 8 keep their places. Refusals: none new; 9 and 10 are not
-- given here."
abbrev pub check_rows : (ℕ → ℕ → Type 0) → ℕ → ℕ → ℕ → ℕ → List Rule
check_rows C sx sy dx dy = Rules.ends_rule C sx sy dx dy ∷ []

abbrev pub check_table : LentMap → ℕ → ℕ → ℕ → ℕ → List ℕ → List Rule
check_table m sx sy dx dy labels = Rules.asking_table m (labels ∷ []) (Rules.places_rule m sx sy dx dy ∷ check_rows (ClosedBy m) sx sy dx dy)

-- A refusal, with zeros beside its number.
abbrev pub no_check : ℕ → Checked
no_check n = record { refusal = n; reason = no_fault; position = 0 }

-- What the answer says of the list.
abbrev pub finding : Checked → Finding
finding r = record { reason = r.reason; position = r.position }

pub record CheckCall (m : LentMap) (sx sy dx dy : ℕ) (labels drawn labels' : List ℕ) (r : Checked) : Type 0 where
  pub given : Gives (check_table m sx sy dx dy labels) r.refusal
  pub labels_after : LabelsAfter (RocksOf m) m.width m.height r.refusal labels labels'
  pub refused : ¬ (r.refusal ≡ 0) → r ≡ no_check r.refusal
  pub done : r.refusal ≡ 0 → Finds m.width m.height (ClosedBy m) sx sy dx dy drawn (finding r)
