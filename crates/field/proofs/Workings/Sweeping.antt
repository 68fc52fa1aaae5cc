-- The number of sweeps that add a mark is the number that request 10 defines. A sheet drawn of a
-- state is swept to one of the next state, and a sweep that adds no mark leaves the state as it is.
use Rattle.std.specs.Prelude.{◌≡◌, List, ◌⊎◌, ◌≢◌, length}
use Rattle.std.proofs.Common.{sym, inl, inr}
use Rattle.std.proofs.Math.Path.{subst}
use Rattle.std.proofs.Math.Bool.{true}
use Prim.Native.Nat.{ℕ, zero, suc, ◌+◌, ◌*◌, ◌<◌, ◌≤◌}
use native.Mathlib.Omega.{arith}
use Rattle.std.proofs.Math.Decide.{dec_lt, ℕ_discrete}
use Rattle.std.proofs.Math.Dec.{eqb}
use borrow.Author.Tests.{eqb-true, eqb-false}
use Rattle.field.specs.Map.{On}
use Rattle.field.specs.Labels.{RockOn}
use Rattle.field.specs.Sweeps.{AfterSweep, stays, closes, State, Rests, Sweeps}
use Rattle.field.specs.Workings.Tests.{cond_cases}
use Rattle.field.specs.Workings.Sheet.{Marked, Draws, lit, sheet, sheet_length, Crossing, crossing}
use Rattle.field.proofs.Workings.Marks.{Two, lit_le, drawn_lit, lit_drawn}
use Rattle.field.specs.Workings.MarkCount.{marks, Among, marks_le_length, marks_mono}
use Rattle.field.proofs.Workings.Counting.{tally, tally_le, tally_le_same}
use Rattle.field.specs.Workings.Closing.{sweep}
use Rattle.field.proofs.Workings.Closing.{sweep_length, sweep_marks, sweep_sound, sweep_keeps, sweep_adds, same_stable, start_draws}
use Rattle.field.specs.Workings.Sweeping.{sweeps_from, sweeps_of}

-- A sheet swept draws the crossings after a sweep.
pub sweep_draws : (w h : ℕ) (C : ℕ → ℕ → Type 0) (s : List ℕ) → Draws w h C s → Draws w h (AfterSweep w h C) (sweep w h s)
sweep_draws w h C s D = record { sound = λ x y m. snd x y m (sweep_sound s w h x y m); complete = cmp }
  where
    snd : (x y : ℕ) → Marked (sweep w h s) w h x y → Marked s w h x y ⊎ Two s w h x y → AfterSweep w h C x y
    snd x y m (inl k) = stays (D.sound x y k)
    snd x y m (inr t) = closes m.on t.first.near t.second.near t.two (D.sound _ _ t.first.mark) (D.sound _ _ t.second.mark)

    cmp : (x y : ℕ) → AfterSweep w h C x y → Marked (sweep w h s) w h x y
    cmp x y (stays p) = sweep_keeps s w h x y (D.complete x y p)
    cmp x y (closes {a} {b} {c} {d} o n m t p q) = sweep_adds s w h x y a b c d o n m t (D.complete a b p) (D.complete c d q)

module _ (R : ℕ → ℕ → Type 0) (w h : ℕ) where
  -- A sheet of the state after k sweeps.
  pub record Drawn (k : ℕ) (s : List ℕ) : Type 0 where
    pub size : length s ≡ h * w
    pub draws : Draws w h (State R w h k) s

  drawn_next : (k : ℕ) (s : List ℕ) → Drawn k s → Drawn (suc k) (sweep w h s)
  unfolding State
  drawn_next k s d = record { size = sweep_length w h s; draws = sweep_draws w h (State R w h k) s d.draws }

  -- A sweep that adds no mark leaves the state as it is, and the other way round.
  same_rests : (k : ℕ) (s : List ℕ) → Drawn k s → marks s ≡ marks (sweep w h s) → Rests R w h k
  unfolding State
  same_rests k s d e x y = (go, stays)
    where
      go : AfterSweep w h (State R w h k) x y → State R w h k x y
      go (stays p) = p
      go (closes o n m t p q) =
          d.draws.sound x y (same_stable w h s d.size e x y _ _ _ _ o n m t (d.draws.complete _ _ p) (d.draws.complete _ _ q))

  rests_same : (k : ℕ) (s : List ℕ) → Drawn k s → Rests R w h k → marks s ≡ marks (sweep w h s)
  rests_same k s d r =
      omega (arith, sweep_marks w h s d.size, marks_mono (sweep w h s) s (omega (arith, sweep_length w h s, d.size)) among)
    where
      among : Among (sweep w h s) s
      among i l p =
          let c : Crossing w h i = crossing w h i (omega (arith, sweep_length w h s)) in
          let m : Marked (sweep w h s) w h c.x c.y = record { on = c.on; mark = rw c.is p } in
          rw c.is at (d.draws.complete c.x c.y ((r c.x c.y).0 ((drawn_next k s d).draws.sound c.x c.y m))).mark

  -- From the sheet of the state after k sweeps, all of which changed something.
  sweeps_from_lem : (n k : ℕ) (s : List ℕ) → Drawn k s → h * w ≤ n + marks s → ((m : ℕ) → m < k → ¬ Rests R w h m) → Sweeps R w h (sweeps_from w h n s + k)
  unfolding sweeps_from
  sweeps_from_lem zero k s d l c =
      let e : k ≡ 0 + k = omega arith in
      subst (Sweeps R w h) e
      (record { rests = same_rests k s d (omega (arith, sweep_marks w h s d.size, marks_le_length (sweep w h s), sweep_length w h s)); changed = c })
  sweeps_from_lem (suc n) k s d l c =
      cond_cases (λ r. Sweeps R w h (r + k)) (eqb (marks (sweep w h s)) (marks s)) ends
      (λ f.
      let v : marks (sweep w h s) ≢ marks s = eqb-false _ _ f in
      let e : sweeps_from w h n (sweep w h s) + suc k ≡ suc (sweeps_from w h n (sweep w h s)) + k = omega arith in
      subst (Sweeps R w h) e
      (sweeps_from_lem n (suc k) (sweep w h s) (drawn_next k s d) (omega (arith, sweep_marks w h s d.size)) (λ m b. all m b (ℕ_discrete m k) v)))
    where
      ends : eqb (marks (sweep w h s)) (marks s) ≡ true → Sweeps R w h (0 + k)
      ends t =
          let e : k ≡ 0 + k = omega arith in
          subst (Sweeps R w h) e (record { rests = same_rests k s d (sym (eqb-true _ _ t)); changed = c })

      all : (m : ℕ) → m < suc k → Dec (m ≡ k) → marks (sweep w h s) ≢ marks s → ¬ Rests R w h m
      all m b (yes e) v r = v (sym (rests_same k s d (rw e at r)))
      all m b (no e) v r = c m (omega arith) r

  module _ (rocks : List ℕ) (D : Draws w h (RockOn R w h) rocks) where
    start : Drawn zero (sheet w h (lit rocks w h))
    unfolding State
    start = record { size = sheet_length w h (lit rocks w h); draws = start_draws w h R rocks D }

    -- What the working finds is the number of sweeps.
    pub sweeps_made : Sweeps R w h (sweeps_of w h rocks)
    unfolding sweeps_of
    sweeps_made =
        let e : sweeps_of w h rocks + 0 ≡ sweeps_of w h rocks = omega arith in
        subst (Sweeps R w h) e (sweeps_from_lem (h * w) zero (sheet w h (lit rocks w h)) start (omega arith) (λ m b. absurd (omega arith)))

    -- A sheet of every state.
    unfoldable pub states : ℕ → List ℕ
    states zero = sheet w h (lit rocks w h)
    states (suc n) = sweep w h (states n)

    pub states_drawn : (n : ℕ) → Drawn n (states n)
    unfolding states
    states_drawn zero = start
    states_drawn (suc n) = drawn_next n (states n) (states_drawn n)

    -- How many crossings are closed after n sweeps: one more, at least, with each that changed
    -- something.
    abbrev pub total : ℕ → ℕ
    total n = tally w h (lit (states n) w h)

    lit_rises : (n x y : ℕ) → lit (states n) w h x y ≤ lit (states (suc n)) w h x y
    unfolding State
    lit_rises n x y = go (dec_lt 0 (lit (states n) w h x y))
      where
        go : Dec (0 < lit (states n) w h x y) → lit (states n) w h x y ≤ lit (states (suc n)) w h x y
        go (yes l) =
            let p : State R w h (suc n) x y = stays (lit_drawn w h (State R w h n) (states n) (states_drawn n).draws x y l) in
            omega (arith, lit_le (states n) w h x y, drawn_lit w h (State R w h (suc n)) (states (suc n)) (states_drawn (suc n)).draws x y p)
        go (no l) = omega arith

    total_same : (n : ℕ) → total n ≡ total (suc n) → Rests R w h n
    unfolding State
    total_same n e x y = (go, stays)
      where
        go : AfterSweep w h (State R w h n) x y → State R w h n x y
        go p =
            let o : On w h x y = ((states_drawn (suc n)).draws.complete x y p).on in
            lit_drawn w h (State R w h n) (states n) (states_drawn n).draws x y
            (omega (
              arith,
              drawn_lit w h (State R w h (suc n)) (states (suc n)) (states_drawn (suc n)).draws x y p,
              tally_le_same w h (lit (states n) w h) (lit (states (suc n)) w h) (λ x y p q. lit_rises n x y) e x y o.in_x o.in_y,
            ))

    pub totals_rise : (n : ℕ) → ((m : ℕ) → m < n → ¬ Rests R w h m) → n + total zero ≤ total n
    totals_rise zero c = omega arith
    totals_rise (suc n) c =
        let v : total n ≢ total (suc n) = λ e. c n (omega arith) (total_same n e) in
        omega (
          arith,
          totals_rise n (λ m l. c m (omega arith)),
          tally_le w h (lit (states n) w h) (lit (states (suc n)) w h) (λ x y p q. lit_rises n x y),
        )
