-- One step of growing a word: what the machine computes has the bits that `Stepped` says.
use mathlib.Core.Path.{◌≡◌}
use mathlib.Core.Logic.{◌⊎◌, inl, inr}
use Prim.Native.Nat.{ℕ, zero, suc, ◌+◌, ◌^◌, ◌<◌, ◌≤◌}
use native.Mathlib.Omega.{arith}
use native.Mathlib.Decide.{dec_lt, ℕ_discrete}
use native.Mathlib.Nat.{lt_of_le_of_lt}
use lib.Bits.{bit_and, bit_or, or_lt, and_le_r}
use Rattle.bits.specs.Bit.{bit_at}
use Rattle.bits.specs.Laws.{bit_le, bit_and_lem, bit_or_lem, bit_past, le_or}
use Rattle.bits.specs.Carries.{east_word, west_word, east_law, west_law}
use Rattle.closing.specs.Steps.{around_at, Stepped}

-- What the machine computes: two or more of four.
abbrev pub two_of : ℕ → ℕ → ℕ → ℕ → ℕ
two_of n s e w = bit_or (bit_or (bit_and n s) (bit_and e w)) (bit_and (bit_or n s) (bit_or e w))

pub record Two (n s e w r : ℕ) : Type 0 where
  pub some : 2 ≤ n + s + e + w → 1 ≤ r
  pub none : n + s + e + w ≤ 1 → r ≤ 0

bit_two : (n s e w i : ℕ) → Two (bit_at n i) (bit_at s i) (bit_at e i) (bit_at w i) (bit_at (two_of n s e w) i)
bit_two n s e w i =
    let a = bit_and_lem n s i in
    let b = bit_and_lem e w i in
    let c = bit_or_lem n s i in
    let d = bit_or_lem e w i in
    let f = bit_or_lem (bit_and n s) (bit_and e w) i in
    let g = bit_and_lem (bit_or n s) (bit_or e w) i in
    let h = bit_or_lem (bit_or (bit_and n s) (bit_and e w)) (bit_and (bit_or n s) (bit_or e w)) i in
    record {
      some = λ l. omega (arith, bit_le n i, bit_le s i, bit_le e i, bit_le w i);
      none = λ l. omega (arith, bit_le n i, bit_le s i, bit_le e i, bit_le w i);
    }

abbrev pub step_of : ℕ → ℕ → ℕ → ℕ → ℕ → ℕ → ℕ
step_of v n s u t mask = bit_or v (bit_and (two_of n s (east_word 64 v u) (west_word 64 v t)) mask)

module _ (v n s u t mask : ℕ) (fv : v < 2 ^ 64) (ft : t < 2 ^ 64) (fm : mask < 2 ^ 64) where
  abbrev two : ℕ
  two = two_of n s (east_word 64 v u) (west_word 64 v t)

  fits : step_of v n s u t mask < 2 ^ 64
  fits = or_lt 64 v (bit_and two mask) fv (lt_of_le_of_lt (and_le_r two mask) fm)

  abbrev around : ℕ → ℕ
  around i = around_at (east_word 64 v u) (west_word 64 v t) n s i

  step_two : (i : ℕ) → (2 ≤ around i → 1 ≤ bit_at two i) × (around i ≤ 1 → bit_at two i ≤ 0)
  step_two i =
      let t = bit_two n s (east_word 64 v u) (west_word 64 v t) i in
      ((λ g. t.some (omega arith)), (λ g. t.none (omega arith)))

  pub stepped : Stepped v n s u t mask (step_of v n s u t mask)
  stepped =
      record {
        e = east_word 64 v u;
        w = west_word 64 v t;
        east = east_law 64 v u (omega arith) fv;
        west = west_law 64 v t (omega arith) ft;
        kept = λ i e. omega (arith, bit_or_lem v (bit_and two mask) i, bit_le (bit_or v (bit_and two mask)) i);
        grows = λ i l m g. omega (arith, bit_or_lem v (bit_and two mask) i, bit_and_lem two mask i, (step_two i).0 g, bit_le (bit_or v (bit_and two mask)) i);
        only = λ i e. all i e (dec_lt i 64);
        more = le_or v (bit_and two mask);
        fits = fits;
      }
    where
      only : (i : ℕ) → i < 64 → bit_at (bit_or v (bit_and two mask)) i ≡ 1 → (bit_at v i ≡ 1) ⊎ ((i < 64) × (bit_at mask i ≡ 1) × (2 ≤ around i))
      only i l e = go (ℕ_discrete (bit_at v i) 1) (ℕ_discrete (bit_at two i) 0)
        where
          go : Dec (bit_at v i ≡ 1) → Dec (bit_at two i ≡ 0) → (bit_at v i ≡ 1) ⊎ ((i < 64) × (bit_at mask i ≡ 1) × (2 ≤ around i))
          go (yes p) z = inl p
          go (no p) (yes z) = absurd (p (omega (arith, bit_or_lem v (bit_and two mask) i, bit_and_lem two mask i, bit_le v i)))
          go (no p) (no z) = inr (l, (omega (arith, bit_or_lem v (bit_and two mask) i, bit_and_lem two mask i, bit_le v i, bit_le mask i)), many (lt_two (around i)))
            where
              lt_two : (k : ℕ) → (2 ≤ k) ⊎ (k ≤ 1)
              lt_two zero = inr (omega arith)
              lt_two (suc zero) = inr (omega arith)
              lt_two (suc (suc k)) = inl (omega arith)

              many : (2 ≤ around i) ⊎ (around i ≤ 1) → 2 ≤ around i
              many (inl q) = q
              many (inr q) = absurd (z (omega (arith, (step_two i).1 q)))

      all : (i : ℕ) → bit_at (step_of v n s u t mask) i ≡ 1 → Dec (i < 64) → (bit_at v i ≡ 1) ⊎ ((i < 64) × (bit_at mask i ≡ 1) × (2 ≤ around i))
      all i e (yes l) = only i l e
      all i e (no l) = absurd (omega (arith, bit_past (step_of v n s u t mask) 64 i fits (omega arith)))
