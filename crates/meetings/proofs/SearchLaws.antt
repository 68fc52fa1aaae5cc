-- What the chains of the search come to: over the numbers below n, whether each has P, and which is
-- the first that has it.
use mathlib.Core.Path.{refl}
use mathlib.Core.Bool.{Bool, true, false, false≢true}
use mathlib.Core.Logic.{◌↔◌}
use Prim.Native.Nat.{ℕ, ◌+◌, ◌*◌, ◌<◌, ◌≤◌}
use native.Mathlib.Omega.{arith}
use lib.ListN.{length, get_or}
use Rattle.std.proofs.Common.{zero-add}
use Rattle.std.specs.Prelude.{Option, None, Some, List, MatchOption, IsTrue}
use Rattle.std.specs.Bool.{MatchBool}
use Rattle.std.specs.List.{range_with_len, AllWithin, HoldsAt}
use Rattle.std.proofs.lemmas.List.FromFn.{length-range_with_len, get_or-range_with_len}
use Rattle.meetings.specs.Search.{Bare, FirstBare}

pub all_below : (n : ℕ) (P N : ℕ → Type 0) → ((k : ℕ) → N k → ¬ P k) → (r : Bool)
    → MatchBool r (AllWithin P (range_with_len 0 n) 0 (length (range_with_len 0 n))) ((k : ℕ) × (k < length (range_with_len 0 n)) × HoldsAt N (range_with_len 0 n) k)
    → IsTrue r ↔ ((k : ℕ) → k < n → P k)
all_below n P N f true h = (λ e k l. there k l (h k 0 (omega arith) (rw (length-range_with_len 0 n) l)), λ b. refl)
  where
    there : (k : ℕ) → k < n → P (get_or (range_with_len 0 n) k 0) → P k
    there k l p = rw (get_or-range_with_len 0 n k 0 l, zero-add k) at p
all_below n P N f false h = (λ e. absurd (false≢true e), λ b. absurd (f h.0 (there h.0 (rw (length-range_with_len 0 n) at h.1) (h.2 0)) (b h.0 (rw (length-range_with_len 0 n) at h.1))))
  where
    there : (k : ℕ) → k < n → N (get_or (range_with_len 0 n) k 0) → N k
    there k l p = rw (get_or-range_with_len 0 n k 0 l, zero-add k) at p

pub first_bare : (s : List ℕ) (i across along m n : ℕ) (o : Option ℕ)
    → MatchOption o ((j : ℕ) → 0 ≤ j → j < m → ¬ Bare s (i + j * across) along n)
    (λ r. (0 ≤ r) × (r < m) × Bare s (i + r * across) along n × ((j : ℕ) → 0 ≤ j → j < r → ¬ Bare s (i + j * across) along n))
    → FirstBare s i across along m n o
first_bare s i across along m n None h = λ j l. h j (omega arith) l
first_bare s i across along m n (Some r) h = record { below = h.1; before = λ j l. h.3 j (omega arith) l; there = h.2 }
