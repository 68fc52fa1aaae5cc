-- What a sweep adds, step by step: nothing; one crossing; one after another. The state before the
-- sweep stays the same throughout, since what is new counts as open.
use mathlib.Core.Path.{◌≡◌, refl, sym, ap, ◌∙◌}
use mathlib.Core.List.{List}
use mathlib.Core.Logic.{◌⊎◌, inl, inr}
use Prim.Native.Nat.{ℕ, ◌+◌, ◌<◌, ◌≤◌}
use native.Mathlib.Omega.{arith}
use native.Mathlib.Decide.{dec_lt, ℕ_discrete}
use lib.ListN.{length, get_or, set, length-set}
use lib.Seq.{get_or-set_same, get_or-set_other}
use Rattle.std.specs.Prelude.{Option, None, Some}
use Rattle.field.specs.declared.Place.{Place}
use Rattle.field.specs.Map.{Sides, On, number, at}
use Rattle.field.specs.Workings.Sheet.{around}
use Rattle.field.proofs.Workings.GridLaws.{number_one}
use Rattle.field.specs.Workings.MarkCount.{marks, marks_set, marks_le_length}
use Rattle.field.specs.Limits.{crossing_slots, crossings_few}
use Rattle.sweeping.specs.Steps.{new_mark, old, before, Queued, Ready, Grows, Judged, JudgedPlace, JudgedAt, AllJudged}
use Rattle.sweeping.proofs.Laws.Before.{before_same}

-- Nothing is added.
pub grows_refl : (w h : ℕ) (s q : List ℕ) (n : ℕ) → Grows w h s q n s q n
grows_refl w h s q n =
    record {
      size = refl;
      room = refl;
      more = omega arith;
      count = refl;
      kept = λ i l. refl;
      made = λ i e. inl e;
      fair = λ x y o e f. absurd (omega arith);
      front = λ j l. refl;
      behind = λ j a b. absurd (omega arith);
    }

module _ {w h : ℕ} {s q s' q' : List ℕ} {n n' : ℕ} (g : Grows w h s q n s' q' n') where
  -- The state before the sweep stays the same.
  pub grows_before : before s' ≡ before s
  grows_before = before_same s s' g.size (λ i. go i (ℕ_discrete (get_or s i 0) 0))
    where
      made : (i : ℕ) → get_or s i 0 ≡ 0 → (get_or s' i 0 ≡ 0) ⊎ ((get_or s' i 0 ≡ new_mark) × Queued q' n n' i) → old (get_or s' i 0) ≡ old (get_or s i 0)
      made i e (inl f) = simp (e, f)
      made i e (inr f) = simp (e, f.0)

      go : (i : ℕ) → Dec (get_or s i 0 ≡ 0) → old (get_or s' i 0) ≡ old (get_or s i 0)
      go i (yes e) = made i e (g.made i e)
      go i (no e) = ap old (g.kept i (omega arith))

  pub grows_ready : Ready w h s q n → Ready w h s' q' n'
  grows_ready r =
      record { size = g.size ∙ r.size; room = omega (arith, g.room, r.room); few = omega (arith, g.count, r.few) }

  -- What is judged stays judged.
  pub grows_judged : {t : List ℕ} {x y : ℕ} → Judged w h t s x y → Judged w h t s' x y
  grows_judged {t} {x} {y} j = record { done = λ o l. omega (arith, g.kept (number w x y) (j.done o l), j.done o l) }

  pub place_judged : (t : List ℕ) (p : Option Place) → JudgedPlace w h t s p → JudgedPlace w h t s' p
  place_judged t None j = tt
  place_judged t (Some p) j = grows_judged j

  pub grows_all_judged : {t : List ℕ} {i : ℕ} → AllJudged w h t s i → AllJudged w h t s' i
  grows_all_judged j = record { each = λ x y a b o e k. grows_judged (j.each x y a b o e k) }

  -- To be judged is the same at any moment of the sweep.
  pub judged_before : {t : List ℕ} {x y : ℕ} → Judged w h s' t x y → Judged w h s t x y
  judged_before {t} {x} {y} j = record { done = λ o l. j.done o (rw grows_before l) }

  pub place_before : (t : List ℕ) (p : Option Place) → JudgedPlace w h s' t p → JudgedPlace w h s t p
  place_before t None j = tt
  place_before t (Some p) j = judged_before j

  pub all_judged_before : {t : List ℕ} {i : ℕ} → AllJudged w h s' t i → AllJudged w h s t i
  all_judged_before j = record { each = λ x y a b o e k. judged_before (j.each x y a b o e k) }

-- One after another.
module _ {w h : ℕ} {s q s₁ q₁ s₂ q₂ : List ℕ} {n n₁ n₂ : ℕ} (g : Grows w h s q n s₁ q₁ n₁) (k : Grows w h s₁ q₁ n₁ s₂ q₂ n₂) where
  open-before : (i : ℕ) → get_or s₁ i 0 ≡ 0 → get_or s i 0 ≡ 0
  open-before i e = go (ℕ_discrete (get_or s i 0) 0)
    where
      go : Dec (get_or s i 0 ≡ 0) → get_or s i 0 ≡ 0
      go (yes z) = z
      go (no z) = omega (arith, g.kept i (omega arith))

  queued_on : {i : ℕ} → Queued q₁ n n₁ i → Queued q₂ n n₂ i
  queued_on v =
      record { slot = v.slot; from = v.from; to = omega (arith, v.to, k.more); is = k.front v.slot v.to ∙ v.is }

  queued_then : {i : ℕ} → Queued q₂ n₁ n₂ i → Queued q₂ n n₂ i
  queued_then v = record { slot = v.slot; from = omega (arith, v.from, g.more); to = v.to; is = v.is }

  pub grows_trans : Grows w h s q n s₂ q₂ n₂
  grows_trans =
      record {
        size = k.size ∙ g.size;
        room = k.room ∙ g.room;
        more = omega (arith, g.more, k.more);
        count = omega (arith, g.count, k.count);
        kept = λ i l. k.kept i (omega (arith, g.kept i l)) ∙ g.kept i l;
        made = λ i e. made i (g.made i e);
        fair = λ x y o e f. fair x y o f e (g.made (number w x y) e);
        front = λ j l. k.front j (omega (arith, g.more)) ∙ g.front j l;
        behind = λ j a b. behind j a b (dec_lt j n₁);
      }
    where
      later : (i : ℕ) → (get_or s₂ i 0 ≡ 0) ⊎ ((get_or s₂ i 0 ≡ new_mark) × Queued q₂ n₁ n₂ i) → (get_or s₂ i 0 ≡ 0) ⊎ ((get_or s₂ i 0 ≡ new_mark) × Queued q₂ n n₂ i)
      later i (inl f) = inl f
      later i (inr f) = inr (f.0, queued_then f.1)

      made : (i : ℕ) → (get_or s₁ i 0 ≡ 0) ⊎ ((get_or s₁ i 0 ≡ new_mark) × Queued q₁ n n₁ i) → (get_or s₂ i 0 ≡ 0) ⊎ ((get_or s₂ i 0 ≡ new_mark) × Queued q₂ n n₂ i)
      made i (inl f) = later i (k.made i f)
      made i (inr f) = inr (k.kept i (omega (arith, f.0)) ∙ f.0, queued_on f.1)

      fair : (x y : ℕ) → On w h x y → at s₂ w x y ≡ new_mark → at s w x y ≡ 0 → (at s₁ w x y ≡ 0) ⊎ ((at s₁ w x y ≡ new_mark) × Queued q₁ n n₁ (number w x y)) → 2 ≤ around (before s) w h x y
      fair x y o f e (inl z) = rw (grows_before g) at (k.fair x y o z f)
      fair x y o f e (inr z) = g.fair x y o e z.0

      behind : (j : ℕ) → n ≤ j → j < n₂ → Dec (j < n₁) → (get_or s (get_or q₂ j 0) 0 ≡ 0) × (get_or s₂ (get_or q₂ j 0) 0 ≡ new_mark)
      behind j a b (yes l) =
          let v = g.behind j a l in
          let i : get_or q₂ j 0 ≡ get_or q₁ j 0 = k.front j l in
          rw i (v.0, k.kept (get_or q₁ j 0) (omega (arith, v.1)) ∙ v.1)
      behind j a b (no l) = let v = k.behind j (omega arith) b in (open-before (get_or q₂ j 0) v.0, v.1)

-- One crossing, of number i, is added.
module _ {w h : ℕ} {s q : List ℕ} {n : ℕ} (sides : Sides w h) (r : Ready w h s q n) (p : Place) (o : On w h p.x p.y) {i : ℕ} (is : i ≡ number w p.x p.y) (inside : i < length s)
    (free : get_or s i 0 ≡ 0) (two : 2 ≤ around (before s) w h p.x p.y) where
  abbrev s' : List ℕ
  s' = set s i new_mark

  abbrev q' : List ℕ
  q' = set q n i

  marked : marks s' ≡ marks s + 1
  marked = marks_set s i new_mark inside free (omega arith)

  -- There is room for one more: a sheet with an open crossing has fewer marks than crossings.
  pub room_left : n < length q
  room_left = omega (arith, marked, marks_le_length s', length-set s i new_mark, r.few, r.size, r.room, crossings_few sides)

  here : get_or s' i 0 ≡ new_mark
  here = get_or-set_same s i new_mark 0 inside

  other : (j : ℕ) → ¬ (j ≡ i) → get_or s' j 0 ≡ get_or s j 0
  other j e = get_or-set_other s i j new_mark 0 e

  last : get_or q' n 0 ≡ i
  last = get_or-set_same q n i 0 room_left

  grows_one : Grows w h s q n s' q' (n + 1)
  grows_one =
      record {
        size = length-set s i new_mark;
        room = length-set q n i;
        more = omega arith;
        count = omega (arith, marked);
        kept = λ j l. other j (λ e. omega (arith, free, ap (λ (k : ℕ). get_or s k 0) e));
        made = λ j e. made j e (ℕ_discrete j i);
        fair = λ a b v e f. fair a b e f (ℕ_discrete (number w a b) i) v;
        front = λ j l. get_or-set_other q n j i 0 (λ e. omega arith);
        behind = λ j a b. let e : n ≡ j = omega arith in rw (← e, last) (free, here);
      }
    where
      made : (j : ℕ) → get_or s j 0 ≡ 0 → Dec (j ≡ i) → (get_or s' j 0 ≡ 0) ⊎ ((get_or s' j 0 ≡ new_mark) × Queued q' n (n + 1) j)
      made j e (yes k) = inr (ap (λ (m : ℕ). get_or s' m 0) k ∙ here, record { slot = n; from = omega arith; to = omega arith; is = last ∙ sym k })
      made j e (no k) = inl (other j k ∙ e)

      fair : (a b : ℕ) → at s w a b ≡ 0 → at s' w a b ≡ new_mark → Dec (number w a b ≡ i) → On w h a b → 2 ≤ around (before s) w h a b
      fair a b e f (yes k) v = let c = number_one o v (k ∙ is) in rw (c.0, c.1) two
      fair a b e f (no k) v = absurd (omega (arith, other (number w a b) k))

  pub judged_one : JudgedAt w h (Some p) s q n s' q' (n + 1)
  judged_one = record { grows = grows_one; judged = record { done = λ v l. omega (arith, here, ap (λ (k : ℕ). get_or s' k 0) is) } }

-- The queue is never longer than the map.
pub ready_few : {w h : ℕ} {s q : List ℕ} {n : ℕ} → Sides w h → Ready w h s q n → n ≤ crossing_slots
ready_few {s = s} z r = omega (arith, r.few, marks_le_length s, r.size, crossings_few z)
