-- Spreading by 1, 2, 4 to 32 places: where all bits of a stretch of d are set in p, one jump of d
-- goes along it.
use mathlib.Core.Path.{◌≡◌, sym, ◌∙◌}
use Prim.Native.Nat.{ℕ, ◌+◌, ◌-◌, ◌*◌, ◌/◌, ◌%◌, ◌^◌, ◌<◌}
use native.Mathlib.Omega.{arith}
use native.Mathlib.Nat.{pow-suc}
use Rattle.std.proofs.Common.{add-one}
use native.Mathlib.Decide.{dec_lt, ℕ_discrete}
use lib.Bits.{bit_and, bit_or, or_lt, and_le_r}
use lib.Pow.{shr_le, pow-lt}
use Rattle.bits.specs.Bit.{bit_at}
use Rattle.bits.specs.Laws.{bit_le, bit_and_lem, bit_or_lem, bit_past, le_or, without}
use Rattle.bits.specs.Shifts.{bit_shr, shl_set}
use Rattle.closing.specs.Steps.{Along, here, from_west, from_east, Spread, Beside}

-- A jump of a turn: twice as far as that of the turn before, and at most 32.
pub power_next : (k : ℕ) → 2 ^ (k + 1) ≡ 2 ^ k * 2
power_next k = rw add-one (pow-suc 2 k)

pub short : {k : ℕ} → k < 6 → 2 ^ k < 64
short l = pow-lt l

-- From d places to the west, and to the east, of a set bit of q, this bit is reached.
pub record East (v p d q : ℕ) : Type 0 where
  pub jump : (i k : ℕ) → bit_at q i ≡ 1 → i ≡ k + d → Along v p k → Along v p i

pub record West (v p d q : ℕ) : Type 0 where
  pub jump : (i k : ℕ) → bit_at q i ≡ 1 → k ≡ i + d → Along v p k → Along v p i

pub east_start : {v p : ℕ} → East v p 1 p
east_start = record { jump = λ i k e f a. from_west k f e a }

pub west_start : {v p : ℕ} → West v p 1 p
west_start = record { jump = λ i k e f a. from_east k f e a }

-- Twice as far: two jumps, where both ends are set.
pub east_next : {v p d q : ℕ} → d < 64 → East v p d q → East v p (d * 2) (bit_and q (q * 2 ^ d % 2 ^ 64))
east_next {v} {p} {d} {q} l j = record { jump = jump }
  where
    jump : (i k : ℕ) → bit_at (bit_and q (q * 2 ^ d % 2 ^ 64)) i ≡ 1 → i ≡ k + d * 2 → Along v p k → Along v p i
    jump i k e f a =
        let z = shl_set 64 q d i l (omega (arith, bit_and_lem q (q * 2 ^ d % 2 ^ 64) i, bit_le (q * 2 ^ d % 2 ^ 64) i)) in
        j.jump i (i - d) (omega (arith, bit_and_lem q (q * 2 ^ d % 2 ^ 64) i, bit_le q i)) (omega (arith, z.0)) (j.jump (i - d) k z.1 (omega arith) a)

pub west_next : {v p d q : ℕ} → West v p d q → West v p (d * 2) (bit_and q (q / 2 ^ d))
west_next {v} {p} {d} {q} j = record { jump = jump }
  where
    jump : (i k : ℕ) → bit_at (bit_and q (q / 2 ^ d)) i ≡ 1 → k ≡ i + d * 2 → Along v p k → Along v p i
    jump i k e f a =
        let z : bit_at q (d + i) ≡ 1 = sym (bit_shr q d i) ∙ omega (arith, bit_and_lem q (q / 2 ^ d) i, bit_le (q / 2 ^ d) i) in
        j.jump i (d + i) (omega (arith, bit_and_lem q (q / 2 ^ d) i, bit_le q i)) (omega arith) (j.jump (d + i) k z (omega arith) a)

-- One turn.
abbrev pub turned : ℕ → ℕ → ℕ → ℕ → ℕ
turned g e w d = bit_or g (bit_or (bit_and e (g * 2 ^ d % 2 ^ 64)) (bit_and w (g / 2 ^ d)))

pub spread_start : {v p : ℕ} → v < 2 ^ 64 → Spread v p v
spread_start f = record { kept = λ i e. e; only = λ i e. here e; more = omega arith; fits = f }

pub spread_next : {v p g d e w : ℕ} → d < 64 → East v p d e → West v p d w → Spread v p g → Spread v p (turned g e w d)
spread_next {v} {p} {g} {d} {e} {w} l je jw r =
    record {
      kept = λ i z. omega (arith, r.kept i z, bit_or_lem g (bit_or east west) i, bit_le (turned g e w d) i);
      only = λ i z. only i z (ℕ_discrete (bit_at g i) 1) (ℕ_discrete (bit_at east i) 1);
      more = omega (arith, r.more, le_or g (bit_or east west));
      fits = or_lt 64 g (bit_or east west) r.fits (or_lt 64 east west fits_east fits_west);
    }
  where
    east : ℕ
    east = bit_and e (g * 2 ^ d % 2 ^ 64)

    west : ℕ
    west = bit_and w (g / 2 ^ d)

    fits_east : east < 2 ^ 64
    fits_east = omega (arith, and_le_r e (g * 2 ^ d % 2 ^ 64))

    fits_west : west < 2 ^ 64
    fits_west = omega (arith, and_le_r w (g / 2 ^ d), shr_le g d, r.fits)

    only : (i : ℕ) → bit_at (turned g e w d) i ≡ 1 → Dec (bit_at g i ≡ 1) → Dec (bit_at east i ≡ 1) → Along v p i
    only i z (yes m) q = r.only i m
    only i z (no m) (yes q) =
        let s = shl_set 64 g d i l (omega (arith, bit_and_lem e (g * 2 ^ d % 2 ^ 64) i, bit_le (g * 2 ^ d % 2 ^ 64) i)) in
        je.jump i (i - d) (omega (arith, bit_and_lem e (g * 2 ^ d % 2 ^ 64) i, bit_le e i)) (omega (arith, s.0)) (r.only (i - d) s.1)
    only i z (no m) (no q) =
        let o : bit_at west i ≡ 1 = omega (arith, bit_or_lem g (bit_or east west) i, bit_or_lem east west i, bit_le g i, bit_le east i, bit_le west i) in
        let s : bit_at g (d + i) ≡ 1 = sym (bit_shr g d i) ∙ omega (arith, bit_and_lem w (g / 2 ^ d) i, bit_le (g / 2 ^ d) i) in
        jw.jump i (d + i) (omega (arith, bit_and_lem w (g / 2 ^ d) i, bit_le w i)) (omega arith) (r.only (d + i) s)

-- `(n | s) & mask & !v`: the bits that v has already need not be reached.
abbrev pub beside_of : ℕ → ℕ → ℕ → ℕ → ℕ
beside_of n s mask v = without 64 (bit_and (bit_or n s) mask) v

pub beside : (n s mask v : ℕ) → mask < 2 ^ 64 → Beside n s mask (beside_of n s mask v)
beside n s mask v f =
    record {
      only = λ i e.
          let b : bit_at (bit_and (bit_or n s) mask) i ≡ 1 =
          omega (arith, bit_and_lem (bit_and (bit_or n s) mask) ((2 ^ 64 - 1) - v) i, bit_le (bit_and (bit_or n s) mask) i) in
          let m : bit_at mask i ≡ 1 = omega (arith, bit_and_lem (bit_or n s) mask i, bit_le mask i) in
          (inside i m (dec_lt i 64), m, omega (arith, bit_and_lem (bit_or n s) mask i, bit_or_lem n s i));
    }
  where
    inside : (i : ℕ) → bit_at mask i ≡ 1 → Dec (i < 64) → i < 64
    inside i e (yes l) = l
    inside i e (no l) = absurd (omega (arith, bit_past mask 64 i f (omega arith)))
