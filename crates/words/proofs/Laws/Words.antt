-- A word read from the bytes of a sheet, and the bytes written from two words: one byte more, and
-- eight bytes more.
use mathlib.Core.Path.{◌≡◌, ap, ◌∙◌}
use mathlib.Core.List.{List}
use Prim.Native.Nat.{ℕ, ◌+◌, ◌-◌, ◌*◌, ◌/◌, ◌%◌, ◌^◌, ◌<◌, ◌≤◌}
use native.Mathlib.Omega.{arith}
use native.Mathlib.Decide.{dec_lt, ℕ_discrete}
use lib.ListN.{length, get_or, set, length-set}
use lib.Seq.{get_or-set_same, get_or-set_other}
use lib.Bits.{bit_and, bit_or, or_lt}
use Rattle.bits.specs.Bit.{bit_at}
use Rattle.bits.specs.Laws.{bit_or_lem, bit_past}
use Rattle.bits.specs.Shifts.{bit_shl_low, bit_shl_at, part_bit, put_bit, put_here, put_other}
use Rattle.words.specs.Words.{Reads, byte_of, WrittenAt}
use Rattle.words.specs.Eights.{LookedEight, Puts, Bytes}

pub reads_start : {o : ℕ} {s : List ℕ} → Reads o s 0 0
reads_start = record { upto = λ i l. absurd (omega arith); past = λ i l. bit_past 0 0 i (omega arith) (omega arith); fits = omega arith }

pub reads_next : {o x v : ℕ} {s : List ℕ} (b : ℕ) → Reads o s x v → x < 64 → b ≡ get_or s (o + x) 0 → b ≤ 1 → Reads o s (x + 1) (put_bit 64 v b x)
reads_next {o} {x} {v} {s} b r l e p =
    record { upto = λ i m. upto i m (ℕ_discrete i x); past = λ i m. past i m (dec_lt i 64); fits = fits }
  where
    fits : put_bit 64 v b x < 2 ^ 64
    fits = or_lt 64 v (b * 2 ^ x % 2 ^ 64) r.fits (omega arith)

    upto : (i : ℕ) → i < x + 1 → Dec (i ≡ x) → bit_at (put_bit 64 v b x) i ≡ get_or s (o + i) 0
    upto i m (yes q) = rw q (put_here 64 v b x l p (r.past x (omega arith)) ∙ e)
    upto i m (no n) = put_other 64 v b x l p i (omega arith) n ∙ r.upto i (omega arith)

    past : (i : ℕ) → x + 1 ≤ i → Dec (i < 64) → bit_at (put_bit 64 v b x) i ≡ 0
    past i m (yes q) = put_other 64 v b x l p i q (λ k. omega arith) ∙ r.past i (omega arith)
    past i m (no q) = bit_past (put_bit 64 v b x) 64 i fits (omega arith)

pub reads_eight : {o x v : ℕ} {s : List ℕ} (b : ℕ) → Reads o s x v → x + 8 ≤ 64 → LookedEight (o + x) s b → Reads o s (x + 8) (bit_or v (b * 2 ^ x % 2 ^ 64))
reads_eight {o} {x} {v} {s} b r l q =
    record { upto = λ i m. upto i m (dec_lt i x); past = λ i m. past i m (dec_lt i 64); fits = fits }
  where
    fits : bit_or v (b * 2 ^ x % 2 ^ 64) < 2 ^ 64
    fits = or_lt 64 v (b * 2 ^ x % 2 ^ 64) r.fits (omega arith)

    upto : (i : ℕ) → i < x + 8 → Dec (i < x) → bit_at (bit_or v (b * 2 ^ x % 2 ^ 64)) i ≡ get_or s (o + i) 0
    upto i m (yes n) =
        let e : bit_at (bit_or v (b * 2 ^ x % 2 ^ 64)) i ≡ bit_at v i = omega (arith, bit_or_lem v (b * 2 ^ x % 2 ^ 64) i, bit_shl_low 64 b x i (omega arith) n) in
        e ∙ r.upto i n
    upto i m (no n) =
        let e : bit_at (bit_or v (b * 2 ^ x % 2 ^ 64)) i ≡ bit_at b (i - x) =
        omega (arith, bit_or_lem v (b * 2 ^ x % 2 ^ 64) i, bit_shl_at 64 b x i (omega arith) (omega arith), r.past i (omega arith)) in
        let f : (o + x) + (i - x) ≡ o + i = omega arith in
        e ∙ q.bits (i - x) (omega arith) ∙ ap (λ (k : ℕ). get_or s k 0) f

    past : (i : ℕ) → x + 8 ≤ i → Dec (i < 64) → bit_at (bit_or v (b * 2 ^ x % 2 ^ 64)) i ≡ 0
    past i m (yes n) =
        omega (arith, bit_or_lem v (b * 2 ^ x % 2 ^ 64) i, bit_shl_at 64 b x i (omega arith) n, r.past i (omega arith), bit_past b 8 (i - x) q.small (omega arith))
    past i m (no n) = bit_past (bit_or v (b * 2 ^ x % 2 ^ 64)) 64 i fits (omega arith)

pub written_next : {o ro sh x : ℕ} {s t : List ℕ} (b : ℕ) → WrittenAt o ro sh s t x → o + x < length s → b ≡ byte_of ro sh x
    → WrittenAt o ro sh s (set t (o + x) b) (x + 1)
written_next {o} {ro} {sh} {x} {s} {t} b r l e =
    record {
      size = length-set t (o + x) b ∙ r.size;
      before = λ k m. get_or-set_other t (o + x) k b 0 (λ q. omega arith) ∙ r.before k m;
      after = λ k m. get_or-set_other t (o + x) k b 0 (λ q. omega arith) ∙ r.after k (omega arith);
      inside = λ i m. inside i m (ℕ_discrete i x);
    }
  where
    inside : (i : ℕ) → i < x + 1 → Dec (i ≡ x) → get_or (set t (o + x) b) (o + i) 0 ≡ byte_of ro sh i
    inside i m (yes q) = rw q (get_or-set_same t (o + x) b 0 (omega (arith, r.size)) ∙ e)
    inside i m (no n) = get_or-set_other t (o + x) (o + i) b 0 (λ q. n (omega arith)) ∙ r.inside i (omega arith)

pub written_eight : {o ro sh x v : ℕ} {s t u : List ℕ} → WrittenAt o ro sh s t x → Puts (o + x) v 8 t u
    → Bytes (bit_and (ro / 2 ^ x) 255) (bit_and (sh / 2 ^ x) 255) v → WrittenAt o ro sh s u (x + 8)
written_eight {o} {ro} {sh} {x} {v} {s} {t} {u} r p q =
    record {
      size = p.size ∙ r.size;
      before = λ k m. p.before k (omega arith) ∙ r.before k m;
      after = λ k m. p.after k (omega arith) ∙ r.after k (omega arith);
      inside = λ i m. inside i m (dec_lt i x);
    }
  where
    inside : (i : ℕ) → i < x + 8 → Dec (i < x) → get_or u (o + i) 0 ≡ byte_of ro sh i
    inside i m (yes n) = p.before (o + i) (omega arith) ∙ r.inside i n
    inside i m (no n) =
        let j : ℕ = i - x in
        let f : o + i ≡ (o + x) + j = omega arith in
        let g : x + j ≡ i = omega arith in
        let a : bit_at (bit_and (ro / 2 ^ x) 255) j ≡ bit_at ro i = part_bit ro x j (omega arith) ∙ ap (bit_at ro) g in
        let b : bit_at (bit_and (sh / 2 ^ x) 255) j ≡ bit_at sh i = part_bit sh x j (omega arith) ∙ ap (bit_at sh) g in
        ap (λ (k : ℕ). get_or u k 0) f ∙ p.inside j (omega arith) ∙ q.bytes j (omega arith) ∙ omega (arith, a, b)
