-- Each turn leaves the program as a turn wants it, with less to do: a map is read, or the run ends,
-- or the buffer is filled, which is asked for only while it is not full and the input goes on.
use mathlib.Core.Path.{◌≡◌, refl, ap, ◌∙◌}
use mathlib.Core.Bool.{Bool, true, false, cond, not, ◌&&◌}
use mathlib.Core.List.{List}
use Prim.Native.Nat.{ℕ, ◌+◌, ◌*◌, ◌-◌, ◌≤◌}
use native.Mathlib.Omega.{arith}
use lib.Dec.{ltb}
use lib.ListN.{length}
use borrow.Author.Tests.{ltb-false, lt-ltb, le-ltb}
use Rattle.field.specs.Workings.Tests.{bit, bit_le}
use Rattle.mapfile.specs.Following.{most_bytes}
use Rattle.planning.specs.declared.Run.{Run}
use Rattle.planning.specs.Promise.{most_maps}
use Rattle.planning.specs.Steps.{OneMap, NotYet}
use Rattle.planning.specs.TallyLaws.{next_tally}
use Rattle.depots.specs.declared.State.{State}
use Rattle.depots.specs.States.{input_room, Filled, Finished, Advanced, Stands, unfilled, left, StepMade}

-- What is left to do while the program goes on, and at most.
left_going : (s : State) → s.going ≡ true → left s ≡ 1 + 2 * (most_maps - s.run.maps) + unfilled s
unfolding left
left_going s e = rw e

left_stopped : (s : State) → s.going ≡ false → left s ≡ 0
unfolding left
left_stopped s e = rw e

left_most : (s : State) → left s ≤ 2 + 2 * (most_maps - s.run.maps)
unfolding left
left_most s = go s.going
  where
    go : (b : Bool) → cond b (1 + 2 * (most_maps - s.run.maps) + unfilled s) 0 ≤ 2 + 2 * (most_maps - s.run.maps)
    go true = omega (arith, bit_le (not s.ended && ltb (s.held - s.from) input_room))
    go false = omega arith

-- A buffer that is full, or in which the input ends.
full : (h n : ℕ) → bit (not (ltb h n) && ltb (h - 0) n) ≡ 0
full h n = go (ltb h n) refl
  where
    go : (b : Bool) → ltb h n ≡ b → bit (not b && ltb (h - 0) n) ≡ 0
    go true e = refl
    go false e = ap bit (le-ltb (h - 0) n (omega (arith, ltb-false h n e)))

-- More is asked for only while it is neither.
asks : (s : State) {src : List ℕ} → length src ≡ s.held - s.from → NotYet s.run src s.ended → unfilled s ≡ 1
unfolding most_bytes
asks s z n = rw (n.goes_on, lt-ltb (s.held - s.from) input_room (omega (arith, n.few))) refl

module _ {s r : State} (t : Stands s) (g : s.going ≡ true) where
  pub went_on : {src text : List ℕ} {used : ℕ} {next : Run} → length src ≡ s.held - s.from → OneMap s.run src s.ended used next text
      → Advanced s used next r → StepMade s r
  went_on z m w =
      record {
        stands = record {
          standing = record { order = omega (arith, w.next, w.same_held, m.within, t.standing.order); within = omega (arith, w.same_held, t.standing.within) };
          room = w.room;
          tally = rw w.new_run (next_tally t.tally m);
        };
        less = omega (arith, left_going s g, left_most r, ap (λ (q : Run). q.maps) w.new_run, m.counted, m.before);
      }

  pub finished : Finished s r → StepMade s r
  finished f =
      record {
        stands = record {
          standing = record { order = omega (arith, f.same_from, f.same_held, t.standing.order); within = omega (arith, f.same_held, t.standing.within) };
          room = omega (arith, f.no_text);
          tally = rw f.same_run t.tally;
        };
        less = omega (arith, left_going s g, left_stopped r f.stopped);
      }

  pub filled : {src : List ℕ} → length src ≡ s.held - s.from → NotYet s.run src s.ended → Filled input_room s r → StepMade s r
  filled z n f =
      record {
        stands = record {
          standing = record { order = omega (arith, f.front); within = f.within };
          room = omega (arith, f.same_text, t.room);
          tally = rw f.same_run t.tally;
        };
        less = omega (arith, left_going s g, left_going r (f.same_going ∙ g), asks s z n, told, ap (λ (q : Run). q.maps) f.same_run);
      }
    where
      told : unfilled r ≡ 0
      told = rw (f.told, f.front) (full r.held input_room)
