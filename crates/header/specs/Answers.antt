-- An answer of yes or no that stands for a fact.
use Rattle.std.specs.Prelude.{◌≡◌, Bool, true, false, ℕ}
use Rattle.std.proofs.Common.{sym, ◌∙◌, arith}

pub never_true : false ≡ true → ⊥
never_true e = let z : ◌≡◌ {A = ℕ} 0 1 = cc in omega arith

-- The answer was no, so the fact fails.
pub answered_no : {a : Bool} {P : Type 0} → a ≡ false → (P → a ≡ true) → ¬ P
answered_no e f p = never_true (sym e ∙ f p)
