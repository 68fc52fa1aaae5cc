-- Rules with numbers, of which the first that applies is given: refusals, "The lowest number that
-- applies is given", and the reasons of a drawn list's fault.
use Rattle.std.specs.Prelude.{◌≡◌, List, [], ◌∷◌, ◌⊎◌, ℕ}
use Rattle.std.proofs.Common.{sym, ◌∙◌, inl, inr}

-- A row of a table: its number, and when it applies.
pub record Rule : Type 1 where
  pub number : ℕ
  pub applies : Type 0

abbrev pub rule : ℕ → Type 0 → Rule
rule n A = record { number = n; applies = A }

-- n is given: the number of the first rule that applies, or 0 where none does. A call's refusals
-- stand in the order in which they are tried: that of their numbers, but for 19 before 10 and 20
-- before 8.
abbrev pub Gives : List Rule → ℕ → Type 0
Gives [] n = n ≡ 0
Gives (r ∷ rs) n = (r.applies × (n ≡ r.number)) ⊎ ((¬ r.applies) × Gives rs n)

-- Two numbers that the rules give are one.
pub gives_one : (rules : List Rule) (n m : ℕ) → Gives rules n → Gives rules m → n ≡ m
gives_one [] n m p q = p ∙ sym q
gives_one (r ∷ rs) n m (inl p) (inl q) = p.1 ∙ sym q.1
gives_one (r ∷ rs) n m (inl p) (inr q) = absurd (q.0 p.0)
gives_one (r ∷ rs) n m (inr p) (inl q) = absurd (p.0 q.0)
gives_one (r ∷ rs) n m (inr p) (inr q) = gives_one rs n m p.1 q.1
