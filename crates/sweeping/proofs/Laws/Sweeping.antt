-- A sweep: from one crossing to its neighbours, from the crossings of a part of the queue, and its
-- end.
use mathlib.Core.Path.{◌≡◌, sym, ◌∙◌}
use mathlib.Core.List.{List}
use Prim.Native.Nat.{ℕ, zero, suc, ◌+◌, ◌*◌, ◌/◌, ◌%◌, ◌<◌, ◌≤◌}
use native.Mathlib.Omega.{arith}
use native.Mathlib.Nat.{mod-lt, div-add-mod', div-lt_iff_lt-mul}
use native.Mathlib.Decide.{dec_lt, ℕ_discrete}
use lib.ListN.{length, get_or, get_or-eq_default}
use Rattle.std.specs.Prelude.{Option}
use Rattle.field.specs.declared.Place.{Place}
use Rattle.sweeping.specs.declared.Side.TheVariants.{East, West, North, South}
use Rattle.field.specs.Map.{Sides, On, number}
use Rattle.field.proofs.Workings.GridLaws.{number_one}
use Rattle.sweeping.specs.Steps.{IsNext, new_mark, Grows, JudgedAt, AllJudged, Spreads, SpreadFrom, SweepsPart, SweptPart, Settles}
use Rattle.sweeping.proofs.Laws.Before.{near_four}
use Rattle.sweeping.proofs.Laws.Growing.{grows_refl, grows_trans, grows_ready, ready_few, grows_all_judged, place_judged, place_before, all_judged_before}

-- The crossing of number i, by division.
pub cut_on : {h i : ℕ} (w : ℕ) → i < h * w → On w h (i % w) (i / w)
cut_on {h} {i} zero l = absurd (omega arith)
cut_on {h} {i} (suc w) l =
    record { in_x = mod-lt i (omega arith); in_y = (div-lt_iff_lt-mul {k = suc w} {x = i} {y = h} (omega arith)).1 l }

cut_number : (w i : ℕ) → number w (i % w) (i / w) ≡ i
cut_number w i = div-add-mod' i w

-- The place of the crossing of number i.
abbrev pub cut : ℕ → ℕ → Place
cut w i = record { x = i % w; y = i / w }

-- The four neighbours are judged one after the other.
module _ {w h i : ℕ} (inside : i < h * w) (a b c d : Option Place) (f : IsNext w h (cut w i) East a) (g : IsNext w h (cut w i) West b) (p : IsNext w h (cut w i) North c)
    (q : IsNext w h (cut w i) South d) {s₀ q₀ s₁ q₁ s₂ q₂ s₃ q₃ s₄ q₄ : List ℕ} {n₀ n₁ n₂ n₃ n₄ : ℕ} (e : JudgedAt w h a s₀ q₀ n₀ s₁ q₁ n₁) (u : JudgedAt w h b s₁ q₁ n₁ s₂ q₂ n₂)
    (n : JudgedAt w h c s₂ q₂ n₂ s₃ q₃ n₃) (v : JudgedAt w h d s₃ q₃ n₃ s₄ q₄ n₄) where
  two : Grows w h s₀ q₀ n₀ s₂ q₂ n₂
  two = grows_trans e.grows u.grows

  three : Grows w h s₀ q₀ n₀ s₃ q₃ n₃
  three = grows_trans two n.grows

  pub spread_from : SpreadFrom w h i s₀ q₀ n₀ s₄ q₄ n₄
  spread_from =
      record {
        grows = grows_trans three v.grows;
        judged =
            record {
              each = λ x y z m o k near.
                  let at = number_one (cut_on w inside) o (k ∙ sym (cut_number w i)) in
                  near_four w h s₀ s₄ (cut w i) a b c d f g p q (rw (at.0, at.1) at near)
                  (place_judged v.grows s₀ a (place_judged n.grows s₀ a (place_judged u.grows s₀ a e.judged)))
                  (place_judged v.grows s₀ b (place_judged n.grows s₀ b (place_before e.grows s₂ b u.judged)))
                  (place_judged v.grows s₀ c (place_before two s₃ c n.judged)) (place_before three s₄ d v.judged);
            };
      }

-- A part of the queue, crossing by crossing: j is the next.
pub record Going (w h lo hi : ℕ) (s q s' q' : List ℕ) (n j : ℕ) : Type 0 where
  pub from : lo ≤ j
  pub to : j ≤ hi
  pub grows : Grows w h s q hi s' q' n
  pub judged : (k : ℕ) → lo ≤ k → k < j → AllJudged w h s s' (get_or q k 0)

pub going_start : {w h lo hi : ℕ} {s q : List ℕ} → SweepsPart w h lo hi s q → Going w h lo hi s q s q hi lo
going_start {w} {h} {lo} {hi} {s} {q} p =
    record { from = omega arith; to = p.order; grows = grows_refl w h s q hi; judged = λ k a b. absurd (omega arith) }

module _ {w h lo hi : ℕ} {s q s₁ q₁ : List ℕ} {n j : ℕ} (p : SweepsPart w h lo hi s q) (g : Going w h lo hi s q s₁ q₁ n j) (l : j < hi) where
  same_number : get_or q₁ j 0 ≡ get_or q j 0
  same_number = g.grows.front j l

  pub going_asks : Spreads w h (get_or q₁ j 0) s₁ q₁ n
  going_asks = record { ready = grows_ready g.grows p.ready; on = omega (arith, same_number, p.numbers j g.from l) }

  pub going_on : {s₂ q₂ : List ℕ} {m : ℕ} → SpreadFrom w h (get_or q₁ j 0) s₁ q₁ n s₂ q₂ m → Going w h lo hi s q s₂ q₂ m (j + 1)
  going_on {s₂} {q₂} {m} v =
      record { from = omega (arith, g.from); to = omega arith; grows = grows_trans g.grows v.grows; judged = λ k a b. all k a b (ℕ_discrete k j) }
    where
      all : (k : ℕ) → lo ≤ k → k < j + 1 → Dec (k ≡ j) → AllJudged w h s s₂ (get_or q k 0)
      all k a b (yes e) = rw (e, ← same_number) (all_judged_before g.grows v.judged)
      all k a b (no e) = grows_all_judged v.grows (g.judged k a (omega arith))

pub going_end : {w h lo hi : ℕ} {s q s' q' : List ℕ} {n j : ℕ} → hi ≤ j → Going w h lo hi s q s' q' n j → SweptPart w h lo hi s q s' q' n
going_end l g = record { grows = g.grows; judged = λ k a b. g.judged k a (omega arith) }

-- What a sweep puts behind has the numbers of crossings, and is within the queue.
pub settles_behind : {w h lo hi : ℕ} {s q t q' : List ℕ} {n : ℕ} → Sides w h → SweepsPart w h lo hi s q → SweptPart w h lo hi s q t q' n → Settles hi n t q'
settles_behind {w} {h} {lo} {hi} {s} {q} {t} {q'} {n} z p g =
    record {
      order = g.grows.more;
      most = omega (arith, ready_few z (grows_ready g.grows p.ready), g.grows.room, p.ready.room);
      numbers = λ j a b. inside (get_or q' j 0) (g.grows.behind j a b).1;
    }
  where
    inside : (i : ℕ) → get_or t i 0 ≡ new_mark → i < length t
    inside i e = go (dec_lt i (length t))
      where
        go : Dec (i < length t) → i < length t
        go (yes l) = l
        go (no l) = absurd (omega (arith, get_or-eq_default t 0 {n = i} (omega arith)))
