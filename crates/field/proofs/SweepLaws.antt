-- What is proved of sweeps (request 10): one number, the sweeps that changed something and no
-- others; the last state is the closed crossings; never more than the shut crossings; 0 exactly
-- with nothing shut. States only grow, and all that they hold is closed; a state that a sweep
-- leaves as it is is stable, and so holds every closed crossing.
use Rattle.std.specs.Prelude.{◌≡◌, List, ◌↔◌}
use Rattle.std.proofs.Math.Path.{subst}
use Prim.Native.Nat.{ℕ, zero, suc, ◌+◌, ◌-◌, ◌<◌, ◌≤◌}
use native.Mathlib.Omega.{arith}
use Rattle.std.proofs.Math.Decide.{dec_lt}
use Rattle.field.specs.Labels.{Closed, rock, between, closed_on_map, smallest, Stable, Shut, RockOn, one, count, Count}
use Rattle.field.specs.Sweeps.{stays, closes, State, Rests, Sweeps}
use Rattle.field.specs.Workings.Sheet.{Draws, lit}
use Rattle.field.proofs.Workings.Marks.{drawn_dec, drawn_lit, undrawn_lit, decided, decided_draws}
use Rattle.field.proofs.Workings.Counting.{tally, tally_same, tally_plus}
use Rattle.field.specs.Workings.Sweeping.{sweeps_of}
use Rattle.field.proofs.Workings.Sweeping.{sweeps_made, states, states_drawn, totals_rise}

module _ (R : ℕ → ℕ → Type 0) (w h : ℕ) where
  -- States only grow, and all that they hold is closed.
  pub state_grows : (k m x y : ℕ) → State R w h m x y → State R w h (k + m) x y
  unfolding State
  state_grows zero m x y p = let e : m ≡ zero + m = omega arith in subst (λ (i : ℕ). State R w h i x y) e p
  state_grows (suc k) m x y p =
      let e : suc (k + m) ≡ suc k + m = omega arith in
      subst (λ (i : ℕ). State R w h i x y) e (stays (state_grows k m x y p))

  pub state_closed : (n x y : ℕ) → State R w h n x y → Closed R w h x y
  unfolding State
  state_closed zero x y p = rock p.on p.stone
  state_closed (suc n) x y (stays p) = state_closed n x y p
  state_closed (suc n) x y (closes o m k t p q) = between o m k t (state_closed n _ _ p) (state_closed n _ _ q)

  -- A state that a sweep leaves as it is holds every closed crossing.
  pub rests_closed : (n : ℕ) → Rests R w h n → (x y : ℕ) → Closed R w h x y → State R w h n x y
  unfolding State
  rests_closed n r = smallest R w h (State R w h n) (λ x y o k. rocks n x y (record { on = o; stone = k })) stable
    where
      rocks : (n x y : ℕ) → RockOn R w h x y → State R w h n x y
      rocks n x y p = let e : n + zero ≡ n = omega arith in subst (λ (i : ℕ). State R w h i x y) e (state_grows n zero x y p)

      stable : Stable w h (State R w h n)
      stable x y a b c d o m k t p q = (r x y).0 (closes o m k t p q)

  -- No sweep after one that changes nothing changes anything.
  pub rests_on : (k n : ℕ) → Rests R w h n → Rests R w h (k + n)
  unfolding State
  rests_on k n r x y = (λ p. state_grows k n x y (rests_closed n r x y (state_closed (suc (k + n)) x y p)), stays)

  -- "the last state is the labelling"
  pub last_state : (n : ℕ) → Sweeps R w h n → (x y : ℕ) → State R w h n x y ↔ Closed R w h x y
  last_state n s x y = (state_closed n x y, rests_closed n s.rests x y)

  -- "the sweeps that changed something": the first n, and no later one.
  pub sweeps_changed : (n : ℕ) → Sweeps R w h n → (m : ℕ) → (m < n) ↔ (¬ Rests R w h m)
  sweeps_changed n s m = (s.changed m, λ c. go c (dec_lt m n))
    where
      go : ¬ Rests R w h m → Dec (m < n) → m < n
      go c (yes l) = l
      go c (no l) =
          let e : (m - n) + n ≡ m = omega arith in
          absurd (c (subst (Rests R w h) e (rests_on (m - n) n s.rests)))

  -- There is one such number.
  pub sweeps_one : (n m : ℕ) → Sweeps R w h n → Sweeps R w h m → n ≡ m
  sweeps_one n m s t = go (dec_lt n m) (dec_lt m n)
    where
      go : Dec (n < m) → Dec (m < n) → n ≡ m
      go (yes l) d = absurd (t.changed n l s.rests)
      go (no l) (yes d) = absurd (s.changed m d t.rests)
      go (no l) (no d) = omega arith

  -- Rocks that can be told from other crossings.
  module _ (dec : (x y : ℕ) → Dec (RockOn R w h x y)) where
    abbrev rocks : List ℕ
    rocks = decided w h dec

    drawn : Draws w h (RockOn R w h) rocks
    drawn = decided_draws w h (RockOn R w h) (λ x y r. r.on) dec

    -- There is such a number.
    pub sweeps_some : Sweeps R w h (sweeps_of w h rocks)
    sweeps_some = sweeps_made R w h rocks drawn

    abbrev T : ℕ → List ℕ
    T = states R w h rocks drawn

    first : Draws w h (RockOn R w h) (T zero)
    unfolding State
    first = (states_drawn R w h rocks drawn zero).draws

    module _ (n : ℕ) (s : Sweeps R w h n) where
      last : Draws w h (Closed R w h) (T n)
      last =
          record {
            sound = λ x y m. state_closed n x y ((states_drawn R w h rocks drawn n).draws.sound x y m);
            complete = λ x y p. (states_drawn R w h rocks drawn n).draws.complete x y (rests_closed n s.rests x y p);
          }

      -- A crossing that is closed at last is a rock or shut.
      each : (x y : ℕ) (r : Dec (RockOn R w h x y)) (t : Dec (Shut R w h x y)) (p : Dec (Closed R w h x y)) → one t + lit (T zero) w h x y ≡ lit (T n) w h x y
      each x y (yes r) (yes t) p = absurd (t.bare r.stone)
      each x y (yes r) (no t) (yes p) = omega (arith, drawn_lit w h (Closed R w h) (T n) last x y p, drawn_lit w h (RockOn R w h) (T zero) first x y r)
      each x y (yes r) (no t) (no p) = absurd (p (rock r.on r.stone))
      each x y (no r) (yes t) p = omega (arith, drawn_lit w h (Closed R w h) (T n) last x y t.closed, undrawn_lit w h (RockOn R w h) (T zero) first x y r)
      each x y (no r) (no t) (yes p) =
          absurd (t (record { closed = p; bare = λ v. r (record { on = closed_on_map R w h x y p; stone = v }) }))
      each x y (no r) (no t) (no p) = omega (arith, undrawn_lit w h (Closed R w h) (T n) last x y p, undrawn_lit w h (RockOn R w h) (T zero) first x y r)

      -- "it is never more than the shut crossings": each sweep that changed something shut one at
      -- least.
      pub sweeps_at_most_shut : (k : ℕ) → Count w h (Shut R w h) k → n ≤ k
      unfolding count tally
      sweeps_at_most_shut k c = omega (arith, totals_rise R w h rocks drawn n s.changed, c.1, parts, whole)
        where
          parts : tally w h (λ x y. one (c.0 x y) + lit (T zero) w h x y) ≡ count w h (Shut R w h) c.0 + tally w h (lit (T zero) w h)
          parts = tally_plus w h (λ x y. one (c.0 x y)) (lit (T zero) w h)

          whole : tally w h (λ x y. one (c.0 x y) + lit (T zero) w h x y) ≡ tally w h (lit (T n) w h)
          whole =
              tally_same w h (λ x y. one (c.0 x y) + lit (T zero) w h x y) (lit (T n) w h)
              (λ x y p q. each x y (dec x y) (c.0 x y) (drawn_dec w h (Closed R w h) (T n) last x y))

      -- "With nothing shut it is 0", and not otherwise.
      pub none_shut : (n ≡ 0) ↔ ((x y : ℕ) → ¬ Shut R w h x y)
      unfolding State
      none_shut = (λ e x y t. t.bare (rw e at (rests_closed n s.rests x y t.closed)).stone, λ f. sweeps_one n 0 s (nothing f))
        where
          nothing : ((x y : ℕ) → ¬ Shut R w h x y) → Sweeps R w h 0
          nothing f = record { rests = λ x y. (λ p. bare x y (state_closed 1 x y p) (dec x y), stays); changed = λ m l. absurd (omega arith) }
            where
              bare : (x y : ℕ) → Closed R w h x y → Dec (RockOn R w h x y) → RockOn R w h x y
              bare x y p (yes r) = r
              bare x y p (no r) = absurd (f x y (record { closed = p; bare = λ v. r (record { on = closed_on_map R w h x y p; stone = v }) }))
