-- A row from the edge on: up to the first closed crossing none has met anything, the closed ones
-- that follow have 0, and from there a number runs on. So each number is made of the one before it
-- as a distance is. And row after row.
use mathlib.Core.Path.{◌≡◌, refl, sym, subst, ap, ap₂, ◌∙◌}
use Rattle.measures.specs.declared.each.End.{End}
use mathlib.Core.List.{List}
use mathlib.Core.Logic.{◌≢◌, inl, inr}
use Prim.Native.Nat.{ℕ, suc, zero, ◌+◌, ◌-◌, ◌<◌, ◌≤◌}
use native.Mathlib.Omega.{arith}
use native.Mathlib.Decide.{dec_lt, ℕ_discrete}
use lib.ListN.{length, get_or}
use Rattle.field.specs.Map.{Sides, no_distance, On, number, at}
use Rattle.field.specs.Limits.{distance_mark, no_distance_is}
use Rattle.sheets.specs.Promise.{Numbered}
use Rattle.measures.specs.Running.{nth, Nth, on_to, placed, lead, run, counted, onward, Own, InRow, Past, Met, Ran, RowOnward, RowRun}
use Rattle.measures.proofs.Lines.{First, OnLine, row_first, row_on, nth_lt, line_one, further_on, row_placed, row_other}
use Rattle.measures.proofs.Runs.{run_le}
use Rattle.measures.proofs.Steps.{far_fits, onward_none, onward_closed, counted_onward}

-- Each number of a line is made of the one before it.
record Onwards (e : End) (start n : ℕ) (u v : List ℕ) : Type 0 where
  pub made : (k : ℕ) → k < n → placed e start v k ≡ onward (lead (placed e start v) k) (placed e start u k)

module _ {e : End} {start n a b : ℕ} {u : List ℕ} (on : OnLine e start n u) (own : (k : ℕ) → k < n → Own (placed e start u k))
    (first : Past no_distance e start 0 n u a) (met : Met e start a n u b) where
  -- Up to the first closed crossing there is none.
  bare : (k : ℕ) → k < b → placed e start u k ≡ no_distance
  bare k l = go (dec_lt k a)
    where
      either : placed e start u k ≢ 0 → Own (placed e start u k) → placed e start u k ≡ no_distance
      either d (inl z) = absurd (d z)
      either d (inr z) = z

      go : Dec (k < a) → placed e start u k ≡ no_distance
      go (yes m) = first.same k (omega arith) m
      go (no m) = either (met.free k (omega arith) l) (own k (omega (arith, met.most)))

  -- A line on which these keep what they have.
  bare_onward : (v : List ℕ) → ((k : ℕ) → k < b → placed e start v k ≡ placed e start u k) → (k : ℕ) → k < b
      → placed e start v k ≡ onward (lead (placed e start v) k) (placed e start u k)
  bare_onward v keeps k l = keeps k l ∙ bare k l ∙ sym (ap₂ onward (before k l) (bare k l) ∙ onward_none)
    where
      before : (k : ℕ) → k < b → lead (placed e start v) k ≡ no_distance
      before zero l = refl
      before (suc k) l = keeps k (omega arith) ∙ bare k (omega arith)

  -- Nothing on the line is closed.
  all_bare : b ≡ n → Onwards e start n u u
  all_bare z = record { made = λ k l. bare_onward u (λ j m. refl) k (omega arith) }

  -- A closed crossing is met, those up to place c are closed, and a number runs on from there.
  module _ {c : ℕ} {v : List ℕ} (some : b < n) (shut : Past 0 e start b n u c) (ran : Ran e (on_to e start c) (n - c) u v) where
    abbrev rest : ℕ → ℕ
    rest = placed e (on_to e start c) u

    at_rest : (t : List ℕ) (k i : ℕ) → k ≡ c + i → placed e (on_to e start c) t i ≡ placed e start t k
    at_rest t k i z = ap (λ (m : ℕ). get_or t m 0) (further_on on c i ∙ ap (on_to e start) (sym z))

    keeps : (k : ℕ) → k < c → placed e start v k ≡ placed e start u k
    keeps k l =
        ran.rest (on_to e start k)
        (λ j m f. let d = line_one on k (c + j) (omega (arith, shut.most)) (omega arith) (f ∙ further_on on c j) in omega arith)

    zeros : (k : ℕ) → b ≤ k → k < c → placed e start v k ≡ 0
    zeros k l m = keeps k m ∙ shut.same k l m

    counts : (k i : ℕ) → k ≡ c + i → k < n → placed e start v k ≡ counted (run counted 0 rest i) (placed e start u k)
    unfolding run
    counts k i z l = sym (at_rest v k i z) ∙ ran.ran i (omega arith) ∙ ap (counted (run counted 0 rest i)) (at_rest u k i z)

    -- The number before a place that is not closed.
    before : (k i : ℕ) → k ≡ c + i → k < n → placed e start u k ≢ 0 → lead (placed e start v) k ≡ run counted 0 rest i
    unfolding run
    before zero i z l d = absurd (d (closed_here (omega (arith, shut.least, met.least))))
      where
        closed_here : b ≡ 0 → placed e start u 0 ≡ 0
        closed_here f = subst (λ (m : ℕ). placed e start u m ≡ 0) f (met.closed some)
    before (suc k) zero z l d = go (ℕ_discrete b c)
      where
        go : Dec (b ≡ c) → placed e start v k ≡ 0
        go (yes f) = absurd (d (subst (λ (m : ℕ). placed e start u m ≡ 0) (at_b f) (met.closed some)))
          where
            at_b : b ≡ c → b ≡ suc k
            at_b f = omega arith
        go (no f) = zeros k (omega (arith, shut.least)) (omega arith)
    before (suc k) (suc i) z l d = sym (at_rest v k i (omega arith)) ∙ ran.ran i (omega arith)

    each : (k : ℕ) → k < n → placed e start v k ≡ onward (lead (placed e start v) k) (placed e start u k)
    each k l = go (dec_lt k b) (dec_lt k c)
      where
        few : (i : ℕ) → k ≡ c + i → run counted 0 rest i < no_distance
        few i z = omega (arith, run_le 0 rest i, on.sound.short, far_fits)

        on_from : (i : ℕ) → k ≡ c + i → Own (placed e start u k) → placed e start v k ≡ onward (lead (placed e start v) k) (placed e start u k)
        on_from i z (inl f) =
            counts k i z l ∙ counted_onward (inl f) (few i z) ∙ onward_closed (run counted 0 rest i) f ∙ sym (onward_closed (lead (placed e start v) k) f)
        on_from i z (inr f) =
            counts k i z l ∙ counted_onward (inr f) (few i z) ∙ ap (λ (m : ℕ). onward m (placed e start u k)) (sym (before k i z l free))
          where
            free : placed e start u k ≢ 0
            free g = omega (arith, f, g, far_fits, on.sound.short)

        go : Dec (k < b) → Dec (k < c) → placed e start v k ≡ onward (lead (placed e start v) k) (placed e start u k)
        go (yes m) d = bare_onward v (λ j i. keeps j (omega (arith, shut.least))) k m
        go (no m) (yes d) = zeros k (omega arith) d ∙ sym (onward_closed (lead (placed e start v) k) (shut.same k (omega arith) d))
        go (no m) (no d) = on_from (k - c) (omega arith) (own k l)

    onwards : Onwards e start n u v
    onwards = record { made = λ k l. each k l }

-- The same of a row, told of its crossings.
row_onward : {w : ℕ} {e : End} {y start : ℕ} {u v : List ℕ} → First e w y start → Onwards e start w u v → RowOnward w e y u v
row_onward {w} {e} {y} {start} {u} {v} f p =
    record { made = λ k l. sym (row_placed v k f l) ∙ p.made k l ∙ ap₂ onward (before k l) (row_placed u k f l) }
  where
    before : (k : ℕ) → k < w → lead (placed e start v) k ≡ lead (λ j. at v w (nth e w j) y) k
    before zero l = refl
    before (suc k) l = row_placed v k f (omega arith)

-- A row with nothing closed, and one with something.
module _ {w h : ℕ} {e : End} {y x start a b : ℕ} {u : List ℕ} (sides : Sides w h) (row : InRow w h y u) (n : Numbered w h x y start)
    (p : Nth e w 0 x) (passed : Past distance_mark e start 0 w u a) (met : Met e start a w u b) where
  f : First e w y start
  f = row_first n p

  on : OnLine e start w u
  on = row_on u sides row.room row.in_y f n.small

  first : Past no_distance e start 0 w u a
  first = subst (λ (m : ℕ). Past m e start 0 w u a) (sym no_distance_is) passed

  by_itself : (k : ℕ) → k < w → Own (placed e start u k)
  by_itself k l = subst Own (sym (row_placed u k f l)) (row.own (nth e w k) (nth_lt e w k l))

  pub row_bare : b ≡ w → RowRun w h e y u u
  row_bare z = record { size = refl; ran = row_onward f (all_bare on by_itself first met z); rest = λ a b o d. refl }

  pub row_ran : {c : ℕ} {v : List ℕ} → b < w → Past 0 e start b w u c → Ran e (on_to e start c) (w - c) u v → RowRun w h e y u v
  row_ran {c} {v} some shut ran =
      record {
        size = ran.size;
        ran = row_onward f (onwards on by_itself first met some shut ran);
        rest = λ i j o d. ran.rest (number w i j) (λ k l g. row_other f row.in_y o d (c + k) (omega arith) (g ∙ further_on on c k));
      }

-- The rows below y passed.
pub record RowsPassed (w h : ℕ) (e : End) (u v : List ℕ) (y : ℕ) : Type 0 where
  pub size : length v ≡ length u
  pub ran : (b : ℕ) → b < y → RowOnward w e b u v
  pub ahead : (a b : ℕ) → On w h a b → y ≤ b → at v w a b ≡ at u w a b

pub rows_more : {w h : ℕ} {e : End} {u v z : List ℕ} {y : ℕ} → y < h → RowsPassed w h e u v y → RowRun w h e y v z → RowsPassed w h e u z (y + 1)
rows_more {w} {h} {e} {u} {v} {z} {y} in_y p q =
    record {
      size = q.size ∙ p.size;
      ran = λ b m. go b m (ℕ_discrete b y);
      ahead = λ a b o l. q.rest a b o (λ d. omega arith) ∙ p.ahead a b o (omega arith);
    }
  where
    here : RowOnward w e y u z
    here =
        record {
          made = λ k l. q.ran.made k l
              ∙ ap (onward (lead (λ j. at z w (nth e w j) y) k)) (p.ahead (nth e w k) y (record { in_x = nth_lt e w k l; in_y = in_y }) (omega arith));
        }

    kept : (b k : ℕ) → b < h → b ≢ y → k < w → at z w (nth e w k) b ≡ at v w (nth e w k) b
    kept b k m d l = q.rest (nth e w k) b (record { in_x = nth_lt e w k l; in_y = m }) d

    before : (b k : ℕ) → b < h → b ≢ y → k < w → lead (λ j. at v w (nth e w j) b) k ≡ lead (λ j. at z w (nth e w j) b) k
    before b zero m d l = refl
    before b (suc k) m d l = sym (kept b k m d (omega arith))

    go : (b : ℕ) → b < y + 1 → Dec (b ≡ y) → RowOnward w e b u z
    go b m (yes d) = subst (λ (b : ℕ). RowOnward w e b u z) (sym d) here
    go b m (no d) =
        record {
          made = λ k l. kept b k (omega arith) d l ∙ (p.ran b (omega arith)).made k l
              ∙ ap (λ (n : ℕ). onward n (at u w (nth e w k) b)) (before b k (omega arith) d l);
        }
