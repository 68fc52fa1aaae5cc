-- Eight bytes at a time. What the two tricks compute is tested on all 256 values of eight bits; the
-- rest goes by digits.
use mathlib.Core.Path.{◌≡◌, refl, sym, ap, ap₂, ◌∙◌}
use mathlib.Core.Bool.{true}
use mathlib.Core.List.{List}
use Prim.Native.Nat.{ℕ, zero, suc, ◌+◌, ◌*◌, ◌/◌, ◌%◌, ◌^◌, ◌<◌, ◌≤◌}
use native.Mathlib.Omega.{arith}
use lib.Dec.{eqb}
use lib.ListN.{length, get_or}
use borrow.Author.Tests.{eqb-true}
use borrow.Rule.Slice.PartMut.{put_mid}
use Rattle.std.specs.Int.{w64, to_le_bytes}
use Rattle.std.proofs.Common.{rules}
use Rattle.std.proofs.lemmas.List.{places}
use Rattle.field.proofs.Workings.Corners.{every, every_one}
use Rattle.bits.specs.Bit.{bit_at}
use Rattle.bits.specs.Laws.{bit_le}
use Rattle.words.specs.Words.{ZeroOne, byte_of}
use Rattle.words.specs.Eights.{gathered, spread_out, Puts, four_of, LookedFour, LookedEight, Bytes}
use Rattle.words.proofs.Laws.Digits.{digits, digit_at}

-- Eight bytes of a word, and the low eight bits of v as bytes.
abbrev pub apart_of : (a b c d e f g h : ℕ) → ℕ
apart_of a b c d e f g h =
    a + 0x100 * b + 0x1_0000 * c + 0x100_0000 * d + 0x1_0000_0000 * e + 0x100_0000_0000 * f + 0x1_0000_0000_0000 * g + 0x100_0000_0000_0000 * h

-- The same eight with the second four between the first.
abbrev folded_of : (a b c d e f g h : ℕ) → ℕ
folded_of a b c d e f g h = four_of a b c d + 16 * four_of e f g h

unfoldable folded : ℕ → ℕ
folded v = folded_of (bit_at v 0) (bit_at v 1) (bit_at v 2) (bit_at v 3) (bit_at v 4) (bit_at v 5) (bit_at v 6) (bit_at v 7)

unfoldable apart : ℕ → ℕ
apart v = apart_of (bit_at v 0) (bit_at v 1) (bit_at v 2) (bit_at v 3) (bit_at v 4) (bit_at v 5) (bit_at v 6) (bit_at v 7)

test_gather : every 256 (λ v. eqb (gathered (folded v)) v) ≡ true
unfolding every gathered folded bit_at
test_gather = refl

test_spread : every 256 (λ v. eqb (spread_out v) (apart v)) ≡ true
unfolding every spread_out apart bit_at
test_spread = refl

gather_law : (v : ℕ) → v < 256 → gathered (folded v) ≡ v
gather_law v l = eqb-true (gathered (folded v)) v (every_one 256 (λ v. eqb (gathered (folded v)) v) test_gather v l)

spread_law : (v : ℕ) → v < 256 → spread_out v ≡ apart v
spread_law v l = eqb-true (spread_out v) (apart v) (every_one 256 (λ v. eqb (spread_out v) (apart v)) test_spread v l)

-- Eight bits f 0 .. f 7, gathered from eight bytes.
module _ (f : ℕ → ℕ) (b : (k : ℕ) → f k < 2) where
  packed : ℕ
  packed = digits 1 8 f

  packed_bit_lem : (j : ℕ) → j < 8 → bit_at packed j ≡ f j
  unfolding bit_at packed
  packed_bit_lem j l = let e : j ≡ 1 * j = omega arith in ap (λ (k : ℕ). digits 1 8 f / 2 ^ k % 2) e ∙ digit_at 1 8 f b j l

  packed_small : packed < 256
  unfolding packed digits
  packed_small = omega (arith, b 0, b 1, b 2, b 3, b 4, b 5, b 6, b 7)

  packed_folded : folded packed ≡ folded_of (f 0) (f 1) (f 2) (f 3) (f 4) (f 5) (f 6) (f 7)
  unfolding folded
  packed_folded =
      let is : (j : ℕ) → j < 8 → bit_at packed j ≡ f j = packed_bit_lem in
      λ i. folded_of (is 0 (omega arith) i) (is 1 (omega arith) i) (is 2 (omega arith) i) (is 3 (omega arith) i) (is 4 (omega arith) i) (is 5 (omega arith) i)
      (is 6 (omega arith) i) (is 7 (omega arith) i)

  gather_is : gathered (folded_of (f 0) (f 1) (f 2) (f 3) (f 4) (f 5) (f 6) (f 7)) ≡ packed
  gather_is = ap gathered (sym packed_folded) ∙ gather_law packed packed_small

-- Eight bytes of a sheet of 0 and 1, four and four.
pub eight_law : {i r : ℕ} {s : List ℕ} (a b : ℕ) → ZeroOne s → LookedFour i s a → LookedFour (i + 4) s b → r ≡ gathered (a + 16 * b) → LookedEight i s r
eight_law {i} {r} {s} a b zo pa pb q =
    record { bits = λ j l. ap (λ (k : ℕ). bit_at k j) is ∙ packed_bit_lem byte small j l; small = rw is (packed_small byte small) }
  where
    byte : ℕ → ℕ
    byte k = get_or s (i + k) 0

    small : (k : ℕ) → byte k < 2
    small k = omega (arith, zo (i + k))

    -- The byte at a number that is k on from i.
    at : (m k : ℕ) → m ≡ i + k → get_or s m 0 ≡ byte k
    at m k e = ap (λ (m : ℕ). get_or s m 0) e

    first : a ≡ four_of (byte 0) (byte 1) (byte 2) (byte 3)
    first = pa.is ∙ (λ t. four_of (at i 0 (omega arith) t) (byte 1) (byte 2) (byte 3))

    second : b ≡ four_of (byte 4) (byte 5) (byte 6) (byte 7)
    second = pb.is ∙ (λ t. four_of (byte 4) (at (i + 4 + 1) 5 (omega arith) t) (at (i + 4 + 2) 6 (omega arith) t) (at (i + 4 + 3) 7 (omega arith) t))

    is : r ≡ packed byte small
    is = q ∙ ap₂ (λ (x y : ℕ). gathered (x + 16 * y)) first second ∙ gather_is byte small

-- Eight bytes of a word, written over a part of a sheet.
le_byte : (v j : ℕ) → j < 8 → get_or (to_le_bytes w64 v) j 0 ≡ v / 2 ^ (8 * j) % 256
le_byte v zero l = let e : v ≡ v / 2 ^ (8 * 0) = omega arith in ap (λ (k : ℕ). k % 256) e
le_byte v (suc zero) l = refl
le_byte v (suc (suc zero)) l = refl
le_byte v (suc (suc (suc zero))) l = refl
le_byte v (suc (suc (suc (suc zero)))) l = refl
le_byte v (suc (suc (suc (suc (suc zero))))) l = refl
le_byte v (suc (suc (suc (suc (suc (suc zero)))))) l = refl
le_byte v (suc (suc (suc (suc (suc (suc (suc zero))))))) l = refl
le_byte v (suc (suc (suc (suc (suc (suc (suc (suc j)))))))) l = absurd (omega arith)

pub put_eight_law : {i v n : ℕ} {s t : List ℕ} → t ≡ to_le_bytes w64 v → n ≡ 8 → i + 8 ≤ length s → Puts i v 8 s (put_mid i n s t)
put_eight_law {i} {v} {n} {s} {t} e q l =
    let m : length t ≡ 8 = ap length e in
    record {
      size = search (rules, places);
      before = λ k b. search (rules, places);
      after = λ k b. search (rules, places);
      inside = λ j b.
          let a : get_or (put_mid i n s t) (i + j) 0 ≡ get_or t j 0 = search (rules, places) in
          a ∙ ap (λ (x : List ℕ). get_or x j 0) e ∙ le_byte v j b;
    }

-- Two words of bits, spread out and summed: no byte is above 3, so none runs over into the next.
module _ (a b : ℕ) (p : a < 256) (q : b < 256) where
  f : ℕ → ℕ
  f k = byte_of a b k

  sum : spread_out a + 2 * spread_out b ≡ digits 8 8 f
  unfolding apart digits f
  sum = ap₂ (λ (x y : ℕ). x + 2 * y) (spread_law a p) (spread_law b q) ∙ omega arith

  low : (k : ℕ) → f k < 256
  unfolding f
  low k = omega (arith, bit_le a k, bit_le b k)

  small : digits 8 8 f < 2 ^ 64
  unfolding digits
  small = omega (arith, low 0, low 1, low 2, low 3, low 4, low 5, low 6, low 7)

  pub bytes_law : Bytes a b (spread_out a + 2 * spread_out b)
  unfolding f
  bytes_law = record { bytes = λ j l. ap (λ (k : ℕ). k / 2 ^ (8 * j) % 256) sum ∙ digit_at 8 8 f low j l; small = rw sum small }

pub spread_most : (v : ℕ) → v < 256 → spread_out v ≤ 0x0101_0101_0101_0101
unfolding apart
spread_most v l = omega (arith, spread_law v l, bit_le v 0, bit_le v 1, bit_le v 2, bit_le v 3, bit_le v 4, bit_le v 5, bit_le v 6, bit_le v 7)
