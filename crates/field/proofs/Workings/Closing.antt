-- Sweeps over a sheet of the rocks draw the smallest set. Each sweep marks only what is closed; a
-- sheet to which a sweep adds nothing is stable, and so holds every closed crossing.
use Rattle.std.specs.Prelude.{◌≡◌, ◌⊎◌, ◌≢◌, ltb, length}
use Rattle.std.proofs.Common.{sym, arith}
use Rattle.std.proofs.Math.Path.{ap}
use Rattle.std.proofs.Math.Bool.{false}
use mathlib.Core.List.{List}
use Rattle.std.proofs.Math.Logic.{inl, inr}
use Prim.Native.Nat.{ℕ, zero, suc, ◌+◌, ◌*◌, ◌<◌, ◌≤◌}
use Rattle.std.proofs.Math.Dec.{eqb}
use borrow.Author.Tests.{ltb-true, leb-true, eqb-true, eqb-false, le-leb}
use Rattle.field.specs.Map.{On, number, at, Near, Apart}
use Rattle.field.specs.Labels.{Closed, rock, between, Stable, RockOn, smallest}
use Rattle.field.specs.Workings.Tests.{bit, bit_true, or_case, or_right, cond_cases}
use Rattle.field.specs.Workings.Sheet.{Marked, Draws, lit, around, sheet, sheet_length, sheet_at, Crossing, crossing, number_lt}
use Rattle.field.proofs.Workings.Marks.{lit_marked, marked_lit, Two, around_two, two_around, drawn_lit, lit_drawn, sheet_draws}
use Rattle.field.specs.Workings.MarkCount.{marks}
use Rattle.field.specs.Workings.MarkCount.{Among, marks_le_length, marks_mono, marks_same}
use Rattle.field.specs.Workings.Closing.{next, sweep, until, closing}

module _ (s : List ℕ) (w h : ℕ) where
  next_sound : (x y : ℕ) → 0 < next s w h x y → Marked s w h x y ⊎ Two s w h x y
  unfolding next
  next_sound x y l =
      or_case (ltb 0 (lit s w h x y)) _ (λ e. inl (lit_marked s w h x y (ltb-true _ _ e)))
      (λ e. let k = leb-true _ (around s w h x y) e in inr (around_two s w h x y (omega arith))) (bit_true _ l)

  next_keeps : (x y : ℕ) → Marked s w h x y → next s w h x y ≡ 1
  unfolding next
  next_keeps x y m = simp (marked_lit s w h x y m)

  next_two : (x y : ℕ) → 2 ≤ around s w h x y → next s w h x y ≡ 1
  unfolding next
  next_two x y l = ap bit (or_right (ltb 0 (lit s w h x y)) _ (le-leb _ (around s w h x y) (omega arith)))

  sweep_at : (x y : ℕ) → On w h x y → at (sweep w h s) w x y ≡ next s w h x y
  unfolding sweep
  sweep_at x y o = sheet_at w h (next s w h) x y o

  pub sweep_sound : (x y : ℕ) → Marked (sweep w h s) w h x y → Marked s w h x y ⊎ Two s w h x y
  sweep_sound x y m = next_sound x y (omega (arith, m.mark, sweep_at x y m.on))

  pub sweep_keeps : (x y : ℕ) → Marked s w h x y → Marked (sweep w h s) w h x y
  sweep_keeps x y m = record { on = m.on; mark = omega (arith, sweep_at x y m.on, next_keeps x y m) }

  pub sweep_adds : (x y a b c d : ℕ) → On w h x y → Near x y a b → Near x y c d → Apart a b c d → Marked s w h a b → Marked s w h c d
      → Marked (sweep w h s) w h x y
  sweep_adds x y a b c d o n n' t m m' =
      record { on = o; mark = omega (arith, sweep_at x y o, next_two x y (two_around s w h x y a b c d n n' t m m')) }

module _ (w h : ℕ) where
  pub sweep_length : (s : List ℕ) → length (sweep w h s) ≡ h * w
  unfolding sweep
  sweep_length s = sheet_length w h (next s w h)

  -- A sweep takes no mark away.
  sweep_grows : (s : List ℕ) → length s ≡ h * w → Among s (sweep w h s)
  sweep_grows s e i l p =
      let c : Crossing w h i = crossing w h i (omega arith) in
      let m : Marked s w h c.x c.y = record { on = c.on; mark = rw c.is p } in
      rw c.is at (sweep_keeps s w h c.x c.y m).mark

  pub sweep_marks : (s : List ℕ) → length s ≡ h * w → marks s ≤ marks (sweep w h s)
  sweep_marks s e = marks_mono s (sweep w h s) (omega (arith, sweep_length s)) (sweep_grows s e)

  -- A sheet to which a sweep adds no mark is stable.
  pub same_stable : (s : List ℕ) → length s ≡ h * w → marks s ≡ marks (sweep w h s) → Stable w h (Marked s w h)
  same_stable s e m x y a b c d o n n' t k k' =
      record {
        on = o;
        mark =
            marks_same s (sweep w h s) (omega (arith, sweep_length s)) (sweep_grows s e) m (number w x y) (omega (arith, number_lt w h x y o))
            (sweep_adds s w h x y a b c d o n n' t k k').mark;
      }

  until_stable : (n : ℕ) (s : List ℕ) → length s ≡ h * w → h * w ≤ n + marks s → Stable w h (Marked (until w h n s) w h)
  unfolding until
  until_stable zero s e l = same_stable s e (omega (arith, sweep_marks s e, marks_le_length (sweep w h s), sweep_length s))
  until_stable (suc n) s e l =
      cond_cases (λ r. Stable w h (Marked r w h)) (eqb (marks (sweep w h s)) (marks s))
      (λ t. same_stable s e (sym (eqb-true _ _ t))) (λ f. until_stable n (sweep w h s) (sweep_length s) (more f))
    where
      more : eqb (marks (sweep w h s)) (marks s) ≡ false → h * w ≤ n + marks (sweep w h s)
      more f = let k : marks (sweep w h s) ≢ marks s = eqb-false _ _ f in omega (arith, sweep_marks s e)

  module _ (R : ℕ → ℕ → Type 0) where
    -- All that is marked is closed, and each rock is marked.
    record Good (s : List ℕ) : Type 0 where
      pub sound : (x y : ℕ) → Marked s w h x y → Closed R w h x y
      pub keeps : (x y : ℕ) → RockOn R w h x y → Marked s w h x y

    sweep_good : (s : List ℕ) → Good s → Good (sweep w h s)
    sweep_good s g = record { sound = snd; keeps = λ x y m. sweep_keeps s w h x y (g.keeps x y m) }
      where
        snd : (x y : ℕ) → Marked (sweep w h s) w h x y → Closed R w h x y
        snd x y m = go (sweep_sound s w h x y m)
          where
            go : Marked s w h x y ⊎ Two s w h x y → Closed R w h x y
            go (inl k) = g.sound x y k
            go (inr t) =
                between m.on t.first.near t.second.near t.two (g.sound _ _ t.first.mark) (g.sound _ _ t.second.mark)

    until_good : (n : ℕ) (s : List ℕ) → Good s → Good (until w h n s)
    unfolding until
    until_good zero s g = g
    until_good (suc n) s g =
        cond_cases Good (eqb (marks (sweep w h s)) (marks s)) (λ t. g)
        (λ f. until_good n (sweep w h s) (sweep_good s g))

    module _ (rocks : List ℕ) (D : Draws w h (RockOn R w h) rocks) where
      -- The sheet that the sweeps start from draws the rocks.
      pub start_draws : Draws w h (RockOn R w h) (sheet w h (lit rocks w h))
      start_draws =
          sheet_draws w h (RockOn R w h) (lit rocks w h) (λ x y o. lit_drawn w h (RockOn R w h) rocks D x y)
          (λ x y k. (k.on, omega (arith, drawn_lit w h (RockOn R w h) rocks D x y k)))

      start_good : Good (sheet w h (lit rocks w h))
      start_good = record { sound = λ x y m. let k = start_draws.sound x y m in rock k.on k.stone; keeps = start_draws.complete }

      -- What the sweeps come to draws the closed crossings, the smallest set.
      pub closing_draws : Draws w h (Closed R w h) (closing w h rocks)
      unfolding closing
      closing_draws =
          record {
            sound = good.sound;
            complete = smallest R w h (Marked (until w h (h * w) start) w h) (λ x y o k. good.keeps x y (record { on = o; stone = k })) stable;
          }
        where
          start : List ℕ
          start = sheet w h (lit rocks w h)

          good : Good (until w h (h * w) start)
          good = until_good (h * w) start start_good

          stable : Stable w h (Marked (until w h (h * w) start) w h)
          stable = until_stable (h * w) start (sheet_length w h (lit rocks w h)) (omega arith)
