-- The promise of the call that tells how many sweeps the labelling takes (request 10): its rules,
-- its answer, and what it leaves in the label sheet.
use Rattle.std.specs.Prelude.{◌≡◌, List, [], ◌∷◌, ℕ}
use Rattle.field.specs.Sweeps.{Sweeps}
use Rattle.calls.specs.Rules
use Rattle.calls.specs.Rules.{Rule, Gives, LentMap, RocksOf}
use Rattle.calls.specs.Answers.{LabelsAfter}
use Rattle.calls.specs.declared.Swept.{Swept}

-- "Refusals: none new": 1, 2 and 3, as in labelling.
abbrev pub sweeps_table : LentMap → List ℕ → List Rule
sweeps_table m labels = Rules.asking_table m (labels ∷ []) []

-- A refusal, with 0 beside its number.
abbrev pub no_sweeps : ℕ → Swept
no_sweeps n = record { refusal = n; sweeps = 0 }

-- "Report the sweeps that changed something, starting from the rocks alone."
pub record SweepsCall (m : LentMap) (labels labels' : List ℕ) (r : Swept) : Type 0 where
  pub given : Gives (sweeps_table m labels) r.refusal
  pub labels_after : LabelsAfter (RocksOf m) m.width m.height r.refusal labels labels'
  pub refused : ¬ (r.refusal ≡ 0) → r ≡ no_sweeps r.refusal
  pub done : r.refusal ≡ 0 → Sweeps (RocksOf m) m.width m.height r.sweeps
