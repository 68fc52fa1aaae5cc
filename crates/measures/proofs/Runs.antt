-- A running number along a line, place by place. What was passed keeps its number, and what is still
-- to come keeps what it had.
use mathlib.Core.Path.{◌≡◌, refl, sym, subst, ap, ap₂, ◌∙◌}
use Rattle.measures.specs.declared.each.End.{End}
use mathlib.Core.List.{List}
use mathlib.Core.Logic.{◌≢◌}
use Prim.Native.Nat.{ℕ, suc, zero, ◌+◌, ◌-◌, ◌<◌, ◌≤◌}
use native.Mathlib.Omega.{arith}
use native.Mathlib.Numerals.{add-one}
use native.Mathlib.Decide.{ℕ_discrete}
use lib.Bits.{and_le_l}
use lib.ListN.{length, get_or, set, length-set}
use lib.Seq.{get_or-set_same, get_or-set_other}
use Rattle.measures.specs.Running.{on_to, placed, run, counted}
use Rattle.measures.proofs.Lines.{OnLine, line_one, line_from, further_on}

-- It grows by one a place at most.
pub run_le : (c : ℕ) (f : ℕ → ℕ) (k : ℕ) → run counted c f k ≤ c + k
unfolding run counted
run_le c f zero = omega arith
run_le c f (suc k) = omega (arith, and_le_l (run counted c f k + 1) (f k), run_le c f k)

-- A line, k places passed.
pub record Running (e : End) (start n : ℕ) (u v : List ℕ) (last k : ℕ) : Type 0 where
  pub size : length v ≡ length u
  pub now_at : last ≡ run counted 0 (placed e start u) k
  pub ran : (j : ℕ) → j < k → placed e start v j ≡ run counted 0 (placed e start u) (suc j)
  pub ahead : (j : ℕ) → k ≤ j → j < n → placed e start v j ≡ placed e start u j
  pub rest : (i : ℕ) → ((j : ℕ) → j < n → i ≢ on_to e start j) → get_or v i 0 ≡ get_or u i 0

pub running_none : {e : End} {start n : ℕ} {u : List ℕ} → Running e start n u u 0 0
unfolding run
running_none = record { size = refl; now_at = refl; ran = λ j l. absurd (omega arith); ahead = λ j l m. refl; rest = λ i d. refl }

module _ {e : End} {start n : ℕ} {u v : List ℕ} {last k : ℕ} (on : OnLine e start n u) (r : Running e start n u v last k) where
  -- The running number fits the sheet.
  pub running_le : last ≤ k
  running_le = omega (arith, r.now_at, run_le 0 (placed e start u) k)

  -- The place's number is an index of the sheet.
  pub running_in : k < n → on_to e start k < length v
  running_in p = omega (arith, on.inside k p, r.size)

  -- One place more.
  module _ (p : k < n) (q : ℕ) (made : q ≡ counted last (placed e start v k)) where
    abbrev next : List ℕ
    next = set v (on_to e start k) q

    stored : q ≡ run counted 0 (placed e start u) (suc k)
    unfolding run
    stored = made ∙ ap₂ counted r.now_at (r.ahead k (omega arith) p)

    other : (j : ℕ) → j < n → j ≢ k → placed e start next j ≡ placed e start v j
    other j l d = get_or-set_other v (on_to e start k) (on_to e start j) q 0 (λ f. d (line_one on j k l p f))

    passed : (j : ℕ) → j < k + 1 → Dec (j ≡ k) → placed e start next j ≡ run counted 0 (placed e start u) (suc j)
    passed j l (yes f) =
        subst (λ (i : ℕ). placed e start next i ≡ run counted 0 (placed e start u) (suc i)) (sym f)
        (get_or-set_same v (on_to e start k) q 0 (running_in p) ∙ stored)
    passed j l (no d) = other j (omega arith) d ∙ r.ran j (omega arith)

    pub running_more : Running e start n u next q (k + 1)
    running_more =
        record {
          size = simp length-set r.size;
          now_at = stored ∙ ap (run counted 0 (placed e start u)) (sym (add-one k));
          ran = λ j l. passed j l (ℕ_discrete j k);
          ahead = λ j l m. other j m (λ f. omega arith) ∙ r.ahead j (omega arith) m;
          rest = λ i d. get_or-set_other v (on_to e start k) i q 0 (d k p) ∙ r.rest i d;
        }

-- The same from place `from` of a longer line on, told of that line's places.
pub record RunningFrom (e : End) (start from n : ℕ) (u v : List ℕ) (last k : ℕ) : Type 0 where
  pub least : from ≤ k
  pub running : Running e (on_to e start from) (n - from) u v last (k - from)

pub from_none : {e : End} {start from n : ℕ} {u : List ℕ} → RunningFrom e start from n u u 0 from
from_none {e} {start} {from} {n} {u} =
    let z : 0 ≡ from - from = omega arith in
    record { least = omega arith; running = subst (Running e (on_to e start from) (n - from) u u 0) z running_none }

module _ {e : End} {start from n : ℕ} {u v : List ℕ} {last k : ℕ} (on : OnLine e start n u) (within : from ≤ n)
    (r : RunningFrom e start from n u v last k) where
  here : on_to e (on_to e start from) (k - from) ≡ on_to e start k
  here = let z : from + (k - from) ≡ k = omega (arith, r.least) in further_on on from (k - from) ∙ ap (on_to e start) z

  pub from_le : last ≤ k
  from_le = omega (arith, running_le (line_from on from within) r.running)

  pub from_more : {i q : ℕ} → k < n → i ≡ on_to e start k → q ≡ counted last (get_or v i 0) → RunningFrom e start from n u (set v i q) q (k + 1)
  from_more {i} {q} p is made =
      let z : k - from + 1 ≡ k + 1 - from = omega (arith, r.least) in
      let at : i ≡ on_to e (on_to e start from) (k - from) = is ∙ sym here in
      record {
        least = omega (arith, r.least);
        running = subst (λ (j : ℕ). Running e (on_to e start from) (n - from) u (set v i q) q j) z
            (subst (λ (j : ℕ). Running e (on_to e start from) (n - from) u (set v j q) q (k - from + 1)) (sym at)
            (running_more (line_from on from within) r.running (omega (arith, r.least)) q (made ∙ ap (λ (j : ℕ). counted last (get_or v j 0)) at)));
      }
