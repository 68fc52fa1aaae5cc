-- The queue of the rocks, as it is filled: it has the numbers of the marks passed, one each.
use mathlib.Core.Path.{◌≡◌, refl, sym, ap, ◌∙◌}
use mathlib.Core.List.{List}
use Prim.Native.Nat.{ℕ, ◌+◌, ◌<◌}
use native.Mathlib.Omega.{arith}
use native.Mathlib.Numerals.{add-one}
use native.Mathlib.Decide.{dec_lt, ℕ_discrete}
use lib.Dec.{ltb}
use lib.ListN.{length, get_or, set, take, length-set, get_or-eq_default}
use lib.Seq.{get_or-set_same, get_or-set_other, take-length, length-take-le}
use borrow.Author.Tests.{lt-ltb, le-ltb}
use Rattle.field.specs.Workings.Tests.{bit}
use Rattle.field.specs.Workings.MarkCount.{marks, marks_take, marks_le_length}
use Rattle.sweeping.specs.Steps.{Queued, Gathering, Gathers, Put, Gathered}

pub gathering_start : (s q : List ℕ) → Gathering 0 s q 0
unfolding marks
gathering_start s q = record { count = refl; numbers = λ j a b. absurd (omega arith); all = λ j l p. absurd (omega arith) }

module _ {s q : List ℕ} {n i : ℕ} (inside : i < length s) (g : Gathering i s q n) where
  more : marks (take (i + 1) s) ≡ marks (take i s) + bit (ltb 0 (get_or s i 0))
  more = ap (λ (k : ℕ). marks (take k s)) (add-one i) ∙ marks_take s i inside

  -- There is room for one more.
  pub put_room : Gathers s q → n < length q
  put_room r = omega (arith, g.count, marks_le_length (take i s), length-take-le i s (omega arith), r.few, r.room)

  pub put_none : get_or s i 0 ≡ 0 → Put i s q q n
  put_none e =
      record {
        room = refl;
        gathering =
            record {
              count = omega (arith, g.count, more, ap bit (le-ltb 0 (get_or s i 0) (omega arith)));
              numbers = g.numbers;
              all = λ j l p. g.all j (below j l p (ℕ_discrete j i)) p;
            };
      }
    where
      below : (j : ℕ) → j < i + 1 → 0 < get_or s j 0 → Dec (j ≡ i) → j < i
      below j l p (yes k) = absurd (omega (arith, ap (λ (m : ℕ). get_or s m 0) k))
      below j l p (no k) = omega arith

  pub put_one : ¬ (get_or s i 0 ≡ 0) → n < length q → Put i s q (set q n i) (n + 1)
  put_one e r =
      record {
        room = length-set q n i;
        gathering =
            record {
              count = omega (arith, g.count, more, ap bit (lt-ltb 0 (get_or s i 0) (omega arith)));
              numbers = λ j a b. numbers j b (ℕ_discrete j n);
              all = λ j l p. all j l p (ℕ_discrete j i);
            };
      }
    where
      numbers : (j : ℕ) → j < n + 1 → Dec (j ≡ n) → get_or (set q n i) j 0 < length s
      numbers j b (yes k) = omega (arith, ap (λ (m : ℕ). get_or (set q n i) m 0) k, get_or-set_same q n i 0 r)
      numbers j b (no k) = omega (arith, get_or-set_other q n j i 0 k, g.numbers j (omega arith) (omega arith))

      on : {j : ℕ} → Queued q 0 n j → Queued (set q n i) 0 (n + 1) j
      on v =
          record {
            slot = v.slot;
            from = v.from;
            to = omega (arith, v.to);
            is = get_or-set_other q n v.slot i 0 (λ k. omega (arith, v.to)) ∙ v.is;
          }

      all : (j : ℕ) → j < i + 1 → 0 < get_or s j 0 → Dec (j ≡ i) → Queued (set q n i) 0 (n + 1) j
      all j l p (yes k) = record { slot = n; from = omega arith; to = omega arith; is = get_or-set_same q n i 0 r ∙ sym k }
      all j l p (no k) = on (g.all j (omega arith) p)

pub gathered : {s q q' : List ℕ} {n : ℕ} (i : ℕ) → i ≡ length s → length q' ≡ length q → Gathering i s q' n → Gathered s q q' n
gathered {s} {q} {q'} {n} i e r g =
    record {
      room = r;
      count = g.count ∙ ap (λ (k : ℕ). marks (take k s)) e ∙ ap marks (take-length s);
      numbers = g.numbers;
      all = λ j p. g.all j (inside j p (dec_lt j (length s))) p;
    }
  where
    inside : (j : ℕ) → 0 < get_or s j 0 → Dec (j < length s) → j < i
    inside j p (yes l) = omega arith
    inside j p (no l) = absurd (omega (arith, get_or-eq_default s 0 {n = j} (omega arith)))
