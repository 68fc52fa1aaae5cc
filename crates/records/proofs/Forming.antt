-- A list being looked through, slot by slot: all markers passed are well formed, and `last` is the
-- id of the one before, or 0 at the first. So the next marker must follow `last`: that says both
-- that no id is 0 and that ids rise.
use Rattle.std.proofs.Common.{◌≡◌, ap, true, eqb, List, ◌↔◌, ℕ, ◌+◌, ◌-◌, ◌<◌, ◌≤◌, length, arith}
use Rattle.std.proofs.Math.Decide.{dec_lt}
use borrow.Author.Tests.{eq-eqb, eqb-true}
use Rattle.field.specs.declared.Marker.{Marker}
use Rattle.field.specs.Map.{On}
use Rattle.markers.specs.List.{slot, WellFormed}
use Rattle.records.specs.Steps.{Few, Follows}

module _ (w h : ℕ) (list : List Marker) (count : ℕ) where
  pub record Forming (last k : ℕ) : Type 0 where
    pub upto : k ≤ count
    pub some_id : (j : ℕ) → j < k → 1 ≤ (slot list j).id
    pub on : (j : ℕ) → j < k → On w h (slot list j).x (slot list j).y
    pub rising : (j : ℕ) → j + 1 < k → (slot list j).id < (slot list (j + 1)).id
    pub first : k ≡ 0 → last ≡ 0
    pub later : (j : ℕ) → j + 1 ≡ k → last ≡ (slot list j).id

  -- In a well-formed list the next marker follows.
  pub next_follows : {last k : ℕ} → k < count → Forming last k → WellFormed w h list count → Follows last (slot list k) w h
  next_follows {last} {k} l f g = record { higher = go (dec_lt 0 k); on = g.on k l }
    where
      go : Dec (0 < k) → last < (slot list k).id
      go (yes z) =
          let j : ℕ = k - 1 in
          let e : j + 1 ≡ k = omega arith in
          omega (arith, f.later j e, g.rising j (omega arith), ap (λ (i : ℕ). (slot list i).id) e)
      go (no z) = omega (arith, f.first (omega arith), g.some_id k l)

  pub forming_end : {last k : ℕ} → count ≤ k → Few count (length list) → Forming last k → WellFormed w h list count
  forming_end {last} {k} l few f =
      record {
        few = few.most;
        lent = few.within;
        some_id = λ j m. f.some_id j (omega arith);
        on = λ j m. f.on j (omega arith);
        rising = λ j m. f.rising j (omega arith);
      }

  -- The answer, that the last marker looked at is the last of all: where one does not follow, and
  -- where none is left.
  pub stopped : {last k : ℕ} → k < count → ¬ Follows last (slot list k) w h → Forming last k → ((eqb k count ≡ true) ↔ WellFormed w h list count)
  stopped {last} {k} l fails f = (λ e. absurd (omega (arith, eqb-true k count e)), λ g. absurd (fails (next_follows l f g)))

  pub ended : {last k : ℕ} → count ≤ k → Few count (length list) → Forming last k → ((eqb k count ≡ true) ↔ WellFormed w h list count)
  ended {last} {k} l few f = (λ e. forming_end l few f, λ g. eq-eqb k count (omega (arith, f.upto)))
