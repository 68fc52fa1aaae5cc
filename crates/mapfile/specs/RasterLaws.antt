-- The bits of a raster are one, and so is the number of its fault; where there is a fault there is
-- no raster.
use Rattle.std.specs.Prelude.{◌≡◌, refl, List, [], ◌∷◌, ◌++◌, ℕ, zero, suc, ◌*◌, ◌-◌, ◌≤◌, length}
use Rattle.std.proofs.Common.{sym, ap, ◌∙◌, append-nil, arith}
use Rattle.field.specs.Workings.Sheet.{sheet_length, sheet_at, sheet_same}
use Rattle.mapfile.specs.Raster.{
  row_bytes,
  packed_bit,
  RawRaster,
  Digits,
  ended,
  skip,
  zero_digit,
  one_digit,
  PlainRaster,
  RawFault,
  raw_short,
  raw_long,
  PlainFault,
  plain_foreign,
  plain_short,
  plain_long,
}
use Rattle.mapfile.specs.RasterWorking.{
  raw_bits,
  digits_of,
  digits_of_none,
  digits_of_zero,
  digits_of_one,
  digits_of_other,
  blank_no_bit,
  plain_verdict,
  verdict_blank,
  verdict_zero,
  verdict_one,
  verdict_foreign,
  verdict_long,
  verdict_short,
  verdict_whole,
}

-- P4: as many bytes as the rows have are a raster, of the packed bits.
pub raw_raster : (w h : ℕ) (l : List ℕ) → length l ≡ h * row_bytes w → RawRaster w h l (raw_bits w h l)
unfolding raw_bits
raw_raster w h l e =
    record {
      size = e;
      crossings = sheet_length w h (λ x r. packed_bit w l r x);
      bit = λ r x p q. sheet_at w h (λ x r. packed_bit w l r x) x r (record { in_x = q; in_y = p });
    }

pub raw_raster_one : {w h : ℕ} {l bits bits' : List ℕ} → RawRaster w h l bits → RawRaster w h l bits' → bits ≡ bits'
raw_raster_one {w} {h} {l} {bits} {bits'} a b =
    sheet_same w h bits bits' a.crossings b.crossings (λ x y o. a.bit y x o.in_y o.in_x ∙ sym (b.bit y x o.in_y o.in_x))

pub raw_fault_one : {w h n m : ℕ} {l : List ℕ} → RawFault w h l n → RawFault w h l m → n ≡ m
raw_fault_one (raw_short p e) (raw_short q f) = omega arith
raw_fault_one (raw_short p e) (raw_long q f) = absurd (omega arith)
raw_fault_one (raw_long p e) (raw_short q f) = absurd (omega arith)
raw_fault_one (raw_long p e) (raw_long q f) = omega arith

pub raw_fault_no_raster : {w h n : ℕ} {l bits : List ℕ} → RawFault w h l n → ¬ RawRaster w h l bits
raw_fault_no_raster (raw_short p e) r = omega (arith, r.size)
raw_fault_no_raster (raw_long p e) r = omega (arith, r.size)

-- P1: the bits are those of the digits.
pub digits_are : {bits l : List ℕ} → Digits bits l → bits ≡ digits_of l
digits_are (ended p q) = p ∙ sym (ap digits_of q ∙ digits_of_none)
digits_are (skip {k} b s d e) = digits_are d ∙ sym (ap digits_of e ∙ digits_of_other k (blank_no_bit s).0 (blank_no_bit s).1)
digits_are (zero_digit {rest} {k} d p e) =
    p ∙ ap (λ (m : List ℕ). 0 ∷ m) (digits_are d) ∙ sym (ap digits_of e ∙ digits_of_zero k refl)
digits_are (one_digit {rest} {k} d p e) =
    p ∙ ap (λ (m : List ℕ). 1 ∷ m) (digits_are d) ∙ sym (ap digits_of e ∙ digits_of_one k refl)

-- Digits after digits.
pub digits_append : {a b l k : List ℕ} → Digits a l → Digits b k → Digits (a ++ b) (l ++ k)
digits_append (ended p q) e = rw (p, q) e
digits_append {k} (skip b s d q) e = skip b s (digits_append d e) (ap (λ (m : List ℕ). m ++ k) q)
digits_append {b} {k} (zero_digit d p q) e = zero_digit (digits_append d e) (ap (λ (m : List ℕ). m ++ b) p) (ap (λ (m : List ℕ). m ++ k) q)
digits_append {b} {k} (one_digit d p q) e = one_digit (digits_append d e) (ap (λ (m : List ℕ). m ++ b) p) (ap (λ (m : List ℕ). m ++ k) q)

pub plain_raster_one : {w h : ℕ} {l bits bits' : List ℕ} → PlainRaster w h l bits → PlainRaster w h l bits' → bits ≡ bits'
plain_raster_one a b = digits_are a.digits ∙ sym (digits_are b.digits)

-- The verdict passes over digits and blanks.
pub verdict_digits : {bits l : List ℕ} → Digits bits l → (rest : List ℕ) (n : ℕ) → length bits ≤ n
    → plain_verdict (l ++ rest) n ≡ plain_verdict rest (n - length bits)
verdict_digits (ended p q) rest n m = rw (p, q) (ap (plain_verdict rest) (omega arith))
verdict_digits (skip {k} b s d e) rest n m = rw e (verdict_blank (k ++ rest) n s ∙ verdict_digits d rest n m)
verdict_digits (zero_digit {rest = bs} {k} d p e) rest zero m = absurd (omega (arith, ap length p))
verdict_digits (zero_digit {rest = bs} {k} d p e) rest (suc n) m =
    rw (e, p) (verdict_zero (k ++ rest) n ∙ verdict_digits d rest n (omega (arith, ap length p)) ∙ ap (plain_verdict rest) (omega arith))
verdict_digits (one_digit {rest = bs} {k} d p e) rest zero m = absurd (omega (arith, ap length p))
verdict_digits (one_digit {rest = bs} {k} d p e) rest (suc n) m =
    rw (e, p) (verdict_one (k ++ rest) n ∙ verdict_digits d rest n (omega (arith, ap length p)) ∙ ap (plain_verdict rest) (omega arith))

pub plain_fault_verdict : {w h n : ℕ} {l : List ℕ} → PlainFault w h l n → plain_verdict l (h * w) ≡ n
plain_fault_verdict {w} {h} (plain_foreign bits front back b d s p e m) =
    rw e (verdict_digits d (b ∷ back) (h * w) (omega arith) ∙ verdict_foreign back (h * w - length bits) p (omega arith) ∙ sym m)
plain_fault_verdict {w} {h} {n} {l} (plain_short bits d s m) =
    ap (λ (k : List ℕ). plain_verdict k (h * w)) (sym (append-nil l))
    ∙ verdict_digits d [] (h * w) (omega arith)
    ∙ verdict_short (h * w - length bits) (omega arith) ∙ sym m
plain_fault_verdict {w} {h} (plain_long bits front back b d s p e m) =
    rw e (verdict_digits d (b ∷ back) (h * w) (omega arith) ∙ verdict_long back (h * w - length bits) p (omega arith) ∙ sym m)

pub plain_raster_verdict : {w h : ℕ} {l bits : List ℕ} → PlainRaster w h l bits → plain_verdict l (h * w) ≡ 0
plain_raster_verdict {w} {h} {l} {bits} r =
    ap (λ (k : List ℕ). plain_verdict k (h * w)) (sym (append-nil l))
    ∙ verdict_digits r.digits [] (h * w) (omega (arith, r.crossings))
    ∙ verdict_whole (h * w - length bits) (omega (arith, r.crossings))

pub plain_fault_one : {w h n m : ℕ} {l : List ℕ} → PlainFault w h l n → PlainFault w h l m → n ≡ m
plain_fault_one a b = sym (plain_fault_verdict a) ∙ plain_fault_verdict b

plain_fault_some : {w h n : ℕ} {l : List ℕ} → PlainFault w h l n → 1 ≤ n
plain_fault_some (plain_foreign bits front back b d s p e m) = omega arith
plain_fault_some (plain_short bits d s m) = omega arith
plain_fault_some (plain_long bits front back b d s p e m) = omega arith

pub plain_fault_no_raster : {w h n : ℕ} {l bits : List ℕ} → PlainFault w h l n → ¬ PlainRaster w h l bits
plain_fault_no_raster f r = omega (arith, plain_fault_some f, plain_fault_verdict f, plain_raster_verdict r)
