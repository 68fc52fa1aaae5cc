-- Faults counted along a row: there are none so far exactly where each crossing passed is as it may
-- be.
use mathlib.Core.Path.{◌≡◌, sym, ap}
use mathlib.Core.List.{List}
use mathlib.Core.Logic.{◌↔◌}
use Prim.Native.Nat.{ℕ, ◌+◌, ◌<◌, ◌≤◌}
use native.Mathlib.Omega.{arith}
use native.Mathlib.Decide.{ℕ_discrete}
use native.Mathlib.Numerals.{add-one}
use lib.ListN.{length, get_or}
use Rattle.taking.specs.Faults.{Judged, west_in, GoodAt, RowJudged}

module _ (south here north : List ℕ) where
  pub record Counted (faults x : ℕ) : Type 0 where
    pub few : faults ≤ x
    pub none : faults ≡ 0 → (k : ℕ) → k < x → GoodAt south here north k
    pub all : ((k : ℕ) → k < x → GoodAt south here north k) → faults ≡ 0

  -- One crossing more, its five bytes by whatever names the code has for them.
  pub counted_more : {faults x r e v : ℕ} → Counted faults x → e ≡ get_or here (x + 1) 0 → v ≡ west_in here x
      → Judged (get_or here x 0) e (get_or south x 0) v (get_or north x 0) r → Counted (faults + r) (x + 1)
  counted_more {faults} {x} {r} {e} {v} c p q j =
      record { few = omega (arith, c.few, j.small); none = λ z k l. go z k l (ℕ_discrete k x); all = back }
    where
      told : (r ≡ 0) ↔ GoodAt south here north x
      told = rw (p, q) at j.told

      go : faults + r ≡ 0 → (k : ℕ) → k < x + 1 → Dec (k ≡ x) → GoodAt south here north k
      go z k l (yes i) = rw i (told.0 (omega arith))
      go z k l (no i) = c.none (omega arith) k (omega arith)

      back : ((k : ℕ) → k < x + 1 → GoodAt south here north k) → faults + r ≡ 0
      back f = omega (arith, c.all (λ k l. f k (omega arith)), told.1 (f x (omega arith)))

  pub counted_row : {faults x : ℕ} → x ≡ length here → Counted faults x → RowJudged south here north faults
  counted_row e c = (λ z k l. c.none z k (omega arith), λ f. c.all (λ k l. f k (omega arith)))

-- The byte west of the next crossing is this one's.
pub west_next : (row : List ℕ) (x : ℕ) → get_or row x 0 ≡ west_in row (x + 1)
west_next row x = ap (west_in row) (sym (add-one x))
