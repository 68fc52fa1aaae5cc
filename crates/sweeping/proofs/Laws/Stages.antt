-- The stages of the work. After k sweeps the sheet shows the state after k sweeps, and the last
-- part of the queue has every crossing that the last of them closed; before the first sweep, every
-- rock. A crossing that the next sweep closes has two neighbours in the state, one of them in that
-- part: if both were closed earlier, it would be closed already. So the sweep finds it.
use mathlib.Core.Path.{◌≡◌, sym, ap, ◌∙◌}
use mathlib.Core.List.{List}
use mathlib.Core.Logic.{◌⊎◌, inl, inr}
use Prim.Native.Nat.{ℕ, zero, suc, ◌*◌, ◌<◌, ◌≤◌}
use native.Mathlib.Omega.{arith}
use native.Mathlib.Decide.{dec_lt, ℕ_discrete}
use lib.ListN.{length, get_or, get_or-eq_default}
use Rattle.field.specs.Map.{On, number, at, Near, Apart}
use Rattle.field.specs.Limits.{crossing_slots}
use Rattle.field.specs.Labels.{closed_on_map, RockOn, Label, is_open, is_rock, is_shut, LabelSheet}
use Rattle.field.specs.Sweeps.{stays, closes, State, Rests, Sweeps}
use Rattle.field.proofs.SweepLaws.{state_closed, rests_closed}
use Rattle.field.proofs.Workings.GridLaws.{near_turned}
use Rattle.field.specs.Workings.Sheet.{Draws, around, Crossing, crossing}
use Rattle.field.proofs.Workings.Marks.{around_two, two_around}
use Rattle.field.specs.Workings.MarkCount.{marks, marks_mono, marks_le_length}
use Rattle.rows.specs.Sheets.{Stamped, Stones}
use Rattle.sweeping.specs.Steps.{shut_mark, new_mark, old, before, Queued, SweepsPart, Stepped, Gathered}
use Rattle.sweeping.proofs.Laws.Before.{before_at}

-- What the sheet has at (x, y) after k sweeps.
pub data Cell (R : ℕ → ℕ → Type 0) (w h k x y b : ℕ) : Type 0 where
  free : b ≡ 0 → ¬ State R w h k x y → Cell R w h k x y b
  stone : b ≡ 1 → RockOn R w h x y → Cell R w h k x y b
  shut : b ≡ shut_mark → State R w h k x y → ¬ RockOn R w h x y → Cell R w h k x y b

-- What was closed before the last sweep: nothing, if there was none.
abbrev pub Earlier : (ℕ → ℕ → Type 0) → ℕ → ℕ → ℕ → ℕ → ℕ → Type 0
Earlier R w h zero x y = ⊥
Earlier R w h (suc k) x y = State R w h k x y

pub record Stage (R : ℕ → ℕ → Type 0) (w h k : ℕ) (s q : List ℕ) (lo hi : ℕ) : Type 0 where
  pub part : SweepsPart w h lo hi s q
  pub cells : (x y : ℕ) → On w h x y → Cell R w h k x y (at s w x y)
  pub last : (x y : ℕ) → State R w h k x y → Earlier R w h k x y ⊎ Queued q lo hi (number w x y)
  pub late : k ≤ hi
  pub changed : (m : ℕ) → m < k → ¬ Rests R w h m

module _ (R : ℕ → ℕ → Type 0) (w h : ℕ) where
  rock_state : (k : ℕ) {x y : ℕ} → RockOn R w h x y → State R w h k x y
  unfolding State
  rock_state zero r = r
  rock_state (suc k) r = stays (rock_state k r)

  state_on : (k x y : ℕ) → State R w h k x y → On w h x y
  state_on k x y p = closed_on_map R w h x y (state_closed R w h k x y p)

  earlier_closes : (k : ℕ) {x y a b c d : ℕ} → On w h x y → Near x y a b → Near x y c d → Apart a b c d → Earlier R w h k a b → Earlier R w h k c d
      → State R w h k x y
  unfolding State
  earlier_closes zero o n m t p q = absurd p
  earlier_closes (suc k) o n m t p q = closes o n m t p q

module _ {R : ℕ → ℕ → Type 0} {w h k : ℕ} {s q : List ℕ} {lo hi : ℕ} (S : Stage R w h k s q lo hi) where
  -- An open crossing is not in the state, and any other is.
  cell_free : (x y : ℕ) → On w h x y → at s w x y ≡ 0 → ¬ State R w h k x y
  cell_free x y o e = go (S.cells x y o)
    where
      go : Cell R w h k x y (at s w x y) → ¬ State R w h k x y
      go (free z n) = n
      go (stone z r) = absurd (omega arith)
      go (shut z p n) = absurd (omega arith)

  cell_state : (x y : ℕ) → On w h x y → ¬ (at s w x y ≡ 0) → State R w h k x y
  cell_state x y o e = go (S.cells x y o)
    where
      go : Cell R w h k x y (at s w x y) → State R w h k x y
      go (free z n) = absurd (e z)
      go (stone z r) = rock_state R w h k r
      go (shut z p n) = p

  -- The state is what counts as closed in the next sweep.
  seen : Draws w h (State R w h k) (before s)
  seen =
      record {
        sound = λ x y m. cell_state x y m.on (λ e. omega (arith, m.mark, before_at s (number w x y), ap old e));
        complete = λ x y p. let o = state_on R w h k x y p in record { on = o; mark = marked x y p (S.cells x y o) };
      }
    where
      marked : (x y : ℕ) → State R w h k x y → Cell R w h k x y (at s w x y) → 0 < at (before s) w x y
      marked x y p (free z n) = absurd (n p)
      marked x y p (stone z r) = omega (arith, before_at s (number w x y), ap old z)
      marked x y p (shut z v n) = omega (arith, before_at s (number w x y), ap old z)

  two_closes : (x y : ℕ) → On w h x y → 2 ≤ around (before s) w h x y → State R w h (suc k) x y
  unfolding State
  two_closes x y o l =
      let t = around_two (before s) w h x y l in
      closes o t.first.near t.second.near t.two (seen.sound _ _ t.first.mark) (seen.sound _ _ t.second.mark)

  module _ {s' q' : List ℕ} {n : ℕ} (T : Stepped w h lo hi s q s' q' n) where
    abbrev t : List ℕ
    t = T.t

    size : length s ≡ h * w
    size = S.part.ready.size

    -- The sweep finds every crossing that it is to close.
    judged : (x y a b : ℕ) → On w h x y → at s w x y ≡ 0 → On w h a b → Near x y a b → 2 ≤ around (before s) w h x y → Queued q lo hi (number w a b)
        → (at t w x y ≡ new_mark) × Queued q' hi n (number w x y)
    judged x y a b o e p near l v =
        go (T.swept.grows.made (number w x y) e) (((T.swept.judged v.slot v.from v.to).each a b x y p (sym v.is) (near_turned near)).done o l)
      where
        go : (at t w x y ≡ 0) ⊎ ((at t w x y ≡ new_mark) × Queued q' hi n (number w x y)) → 0 < at t w x y → (at t w x y ≡ new_mark) × Queued q' hi n (number w x y)
        go (inl z) m = absurd (omega arith)
        go (inr z) m = z

    found : (x y : ℕ) → On w h x y → at s w x y ≡ 0 → State R w h (suc k) x y → (at t w x y ≡ new_mark) × Queued q' hi n (number w x y)
    unfolding State
    found x y o e (stays p) = absurd (cell_free x y o e p)
    found x y o e (closes {a} {b} {c} {d} v near near' apart p p') = go (S.last a b p) (S.last c d p')
      where
        two : 2 ≤ around (before s) w h x y
        two = two_around (before s) w h x y a b c d near near' apart (seen.complete a b p) (seen.complete c d p')

        go : Earlier R w h k a b ⊎ Queued q lo hi (number w a b) → Earlier R w h k c d ⊎ Queued q lo hi (number w c d)
            → (at t w x y ≡ new_mark) × Queued q' hi n (number w x y)
        go (inr f) g = judged x y a b o e (state_on R w h k a b p) near two f
        go (inl f) (inr g) = judged x y c d o e (state_on R w h k c d p') near' two g
        go (inl f) (inl g) = absurd (cell_free x y o e (earlier_closes R w h k o near near' apart f g))

    -- What stands on the sheet when the sweep is over.
    not_queued : (i : ℕ) → ¬ (get_or t i 0 ≡ new_mark) ⊎ (0 < get_or s i 0) → ¬ Queued q' hi n i
    not_queued i f v = go f (rw v.is at (T.swept.grows.behind v.slot v.from v.to))
      where
        go : ¬ (get_or t i 0 ≡ new_mark) ⊎ (0 < get_or s i 0) → (get_or s i 0 ≡ 0) × (get_or t i 0 ≡ new_mark) → ⊥
        go (inl e) b = e b.1
        go (inr l) b = omega (arith, b.0)

    after_kept : (i : ℕ) → 0 < get_or s i 0 → get_or s' i 0 ≡ get_or s i 0
    after_kept i l = T.settled.other i (not_queued i (inr l)) ∙ T.swept.grows.kept i l

    after_free : (i : ℕ) → get_or t i 0 ≡ 0 → get_or s' i 0 ≡ 0
    after_free i e = T.settled.other i (not_queued i (inl (λ f. omega arith))) ∙ e

    pub next_size : length s' ≡ length s
    next_size = T.settled.size ∙ T.swept.grows.size

    next_cell : (x y : ℕ) → On w h x y → Cell R w h (suc k) x y (at s' w x y)
    unfolding State
    next_cell x y o = go (ℕ_discrete (at s w x y) 0)
      where
        kept : ¬ (at s w x y ≡ 0) → Cell R w h k x y (at s w x y) → Cell R w h (suc k) x y (at s' w x y)
        kept e (free z m) = absurd (e z)
        kept e (stone z r) = stone (after_kept (number w x y) (omega arith) ∙ z) r
        kept e (shut z p m) = shut (after_kept (number w x y) (omega arith) ∙ z) (stays p) m

        made : at s w x y ≡ 0 → (at t w x y ≡ 0) ⊎ ((at t w x y ≡ new_mark) × Queued q' hi n (number w x y)) → Cell R w h (suc k) x y (at s' w x y)
        made e (inl z) = free (after_free (number w x y) z) (λ p. omega (arith, (found x y o e p).0))
        made e (inr z) =
            shut (T.settled.shut (number w x y) z.1) (two_closes x y o (T.swept.grows.fair x y o e z.0)) (λ r. cell_free x y o e (rock_state R w h k r))

        go : Dec (at s w x y ≡ 0) → Cell R w h (suc k) x y (at s' w x y)
        go (yes e) = made e (T.swept.grows.made (number w x y) e)
        go (no e) = kept e (S.cells x y o)

    -- A sweep that puts nothing behind changes nothing.
    pub ends_rests : n ≡ hi → Rests R w h k
    unfolding State
    ends_rests z x y = (λ p. go p (state_on R w h (suc k) x y p) (ℕ_discrete (at s w x y) 0), stays)
      where
        go : State R w h (suc k) x y → On w h x y → Dec (at s w x y ≡ 0) → State R w h k x y
        go p o (yes e) = let v = (found x y o e p).1 in absurd (omega (arith, v.from, v.to))
        go p o (no e) = cell_state x y o e

    pub ends_sweeps : n ≡ hi → Sweeps R w h k
    ends_sweeps z = record { rests = ends_rests z; changed = S.changed }

    pub ends_labels : n ≡ hi → LabelSheet R w h s'
    unfolding State
    ends_labels z = record { size = next_size ∙ size; label = λ x y o. go x y o (next_cell x y o) }
      where
        go : (x y : ℕ) → On w h x y → Cell R w h (suc k) x y (at s' w x y) → Label R w h x y (at s' w x y)
        go x y o (free e m) = is_open e (record { on = o; free = λ p. m (stays (rests_closed R w h k (ends_rests z) x y p)) })
        go x y o (stone e r) = is_rock e r
        go x y o (shut e p m) = is_shut e (record { closed = state_closed R w h (suc k) x y p; bare = λ r. m (record { on = o; stone = r }) })

    -- One that puts something behind leads to the next stage.
    inside : (i : ℕ) → get_or t i 0 ≡ new_mark → i < h * w
    inside i e = go (dec_lt i (length t))
      where
        go : Dec (i < length t) → i < h * w
        go (yes l) = omega (arith, T.swept.grows.size, size)
        go (no l) = absurd (omega (arith, get_or-eq_default t 0 {n = i} (omega arith)))

    not_rests : hi < n → ¬ Rests R w h k
    not_rests l r =
        let b = T.swept.grows.behind hi (omega arith) l in
        let c : Crossing w h (get_or q' hi 0) = crossing w h (get_or q' hi 0) (inside _ b.1) in
        let e : at s w c.x c.y ≡ 0 = ap (λ (i : ℕ). get_or s i 0) c.is ∙ b.0 in
        let f : at t w c.x c.y ≡ new_mark = ap (λ (i : ℕ). get_or t i 0) c.is ∙ b.1 in
        cell_free c.x c.y c.on e
        ((r c.x c.y).0 (two_closes c.x c.y c.on (T.swept.grows.fair c.x c.y c.on e f)))

    marks_kept : marks t ≤ marks s'
    marks_kept = marks_mono t s' (sym T.settled.size) (λ i l p. go i p (ℕ_discrete (get_or s i 0) 0))
      where
        made : (i : ℕ) → 0 < get_or t i 0 → (get_or t i 0 ≡ 0) ⊎ ((get_or t i 0 ≡ new_mark) × Queued q' hi n i) → 0 < get_or s' i 0
        made i p (inl z) = absurd (omega arith)
        made i p (inr z) = omega (arith, T.settled.shut i z.1)

        go : (i : ℕ) → 0 < get_or t i 0 → Dec (get_or s i 0 ≡ 0) → 0 < get_or s' i 0
        go i p (yes e) = made i p (T.swept.grows.made i e)
        go i p (no e) = omega (arith, after_kept i (omega arith))

    pub next_stage : hi < n → Stage R w h (suc k) s' q' hi n
    unfolding State
    next_stage l =
        record {
          part =
              record {
                ready =
                    record {
                      size = next_size ∙ size;
                      room = omega (arith, T.swept.grows.room, S.part.ready.room);
                      few = omega (arith, T.swept.grows.count, S.part.ready.few, marks_kept);
                    };
                order = omega arith;
                numbers = λ j a b. inside (get_or q' j 0) (T.swept.grows.behind j a b).1;
              };
          cells = next_cell;
          last = λ x y p. last x y p (ℕ_discrete (at s w x y) 0);
          late = omega (arith, S.late);
          changed = λ m b. changed m b (ℕ_discrete m k);
        }
      where
        last : (x y : ℕ) → State R w h (suc k) x y → Dec (at s w x y ≡ 0) → State R w h k x y ⊎ Queued q' hi n (number w x y)
        last x y p (yes e) = inr (found x y (state_on R w h (suc k) x y p) e p).1
        last x y p (no e) = inl (cell_state x y (state_on R w h (suc k) x y p) e)

        changed : (m : ℕ) → m < suc k → Dec (m ≡ k) → ¬ Rests R w h m
        changed m b (yes e) = rw e (not_rests l)
        changed m b (no e) = S.changed m (omega arith)

-- The stage before the first sweep: the rocks alone, all of them in the queue.
pub first_stage : {w h : ℕ} {s q q' : List ℕ} {n : ℕ} → Stamped w h s → crossing_slots ≤ length q → Gathered s q q' n → Stage (Stones w h s) w h 0 s q' 0 n
unfolding State
first_stage {w} {h} {s} {q} {q'} {n} S r g =
    record {
      part =
          record {
            ready = record { size = S.size; room = omega (arith, g.room); few = omega (arith, g.count) };
            order = omega arith;
            numbers = λ j a b. omega (arith, g.numbers j a b, S.size);
          };
      cells = λ x y o. cell x y o (ℕ_discrete (at s w x y) 0);
      last = λ x y p. inr (g.all (number w x y) p.stone.mark);
      late = omega arith;
      changed = λ m l. absurd (omega arith);
    }
  where
    cell : (x y : ℕ) → On w h x y → Dec (at s w x y ≡ 0) → Cell (Stones w h s) w h 0 x y (at s w x y)
    cell x y o (yes e) = free e (λ p. omega (arith, p.stone.mark))
    cell x y o (no e) = stone (omega (arith, S.ones (number w x y))) (record { on = o; stone = record { on = o; mark = omega arith } })

-- The queue's end is never past the map's size.
pub stage_most : {R : ℕ → ℕ → Type 0} {w h k : ℕ} {s q : List ℕ} {lo hi : ℕ} → Stage R w h k s q lo hi → hi ≤ h * w
stage_most {s = s} S = omega (arith, S.part.ready.few, marks_le_length s, S.part.ready.size)
