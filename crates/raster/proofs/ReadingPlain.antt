-- A P1 raster being read: the bytes passed are blanks and digits 0 and 1, no more digits than
-- crossings, and the digits' bits stand at the front.
use mathlib.Core.Path.{◌≡◌, refl, sym, ap, subst, ◌∙◌}
use mathlib.Core.List.{List, [], ◌∷◌, ◌++◌, append-nil}
use Prim.Native.Nat.{ℕ, ◌+◌, ◌*◌, ◌-◌, ◌<◌, ◌≤◌}
use native.Mathlib.Omega.{arith}
use lib.ListN.{length, get_or, take, drop, set, length-set, take-append-drop}
use lib.Seq.{take_all, length-take-le}
use Rattle.mapfile.specs.Header.{Blank}
use Rattle.mapfile.specs.Raster.{
  Digits,
  ended,
  skip,
  zero_digit,
  one_digit,
  PlainRaster,
  PlainByte,
  PlainFault,
  is_blank,
  is_zero,
  is_one,
  plain_foreign,
  plain_short,
  plain_long,
}
use Rattle.mapfile.specs.RasterWorking.{blank_no_bit}
use Rattle.mapfile.specs.RasterLaws.{digits_append}
use Rattle.mapfile.specs.File.{plain}
use Rattle.mapfile.specs.MarkerLaws.{ones, ones-le, ones_snoc}
use Rattle.raster.specs.RasterParts.{BitByte, zero_byte, one_byte, RasterIn}
use Rattle.field.specs.Map.{Sides}
use Rattle.field.specs.Refusals.{bad_header, short_raster, long_raster}
use Rattle.field.specs.Limits.{crossing_slots, crossings_few}
use Rattle.raster.proofs.Rows.{take_next, take_set}
use Rattle.header.specs.Left.{left_cons}
use Rattle.raster.proofs.Reading.{rocks_marked}

pub record ReadingPlain (w h : ℕ) (body out out' : List ℕ) (digits rocks i : ℕ) : Type 0 where
  pub within : i ≤ length body
  pub size : length out' ≡ length out
  pub passed : Digits (take digits out') (take i body)
  pub few : digits ≤ h * w
  pub marked : rocks ≡ ones (take digits out')

pub reading_start : (w h : ℕ) (body out : List ℕ) → ReadingPlain w h body out out 0 0 0
unfolding ones
reading_start w h body out =
    record { within = omega arith; size = refl; passed = ended refl refl; few = omega arith; marked = refl }

bit_digits : {b : ℕ} → BitByte b → Digits ((b - 48) ∷ []) (b ∷ [])
bit_digits (zero_byte e) = rw e (zero_digit (ended refl refl) refl refl)
bit_digits (one_byte e) = rw e (one_digit (ended refl refl) refl refl)

pub bit_value : {b : ℕ} → BitByte b → (48 ≤ b) × (b - 48 ≤ 1)
bit_value (zero_byte e) = (omega arith, omega arith)
bit_value (one_byte e) = (omega arith, omega arith)

-- No digit is a blank.
pub bit_no_blank : {b : ℕ} → BitByte b → ¬ Blank b
bit_no_blank (zero_byte e) l = (blank_no_bit l).0 e
bit_no_blank (one_byte e) l = (blank_no_bit l).1 e

-- A byte that is neither a blank nor a digit 0 or 1 is no byte of a P1 raster.
foreign : {b : ℕ} → ¬ Blank b → ¬ BitByte b → ¬ PlainByte b
foreign p q (is_blank e) = p e
foreign p q (is_zero e) = q (zero_byte e)
foreign p q (is_one e) = q (one_byte e)

module _ {w h : ℕ} {body out out' : List ℕ} {digits rocks i : ℕ} (sides : Sides w h) (room : h * w ≤ length out) (k : ReadingPlain w h body out out' digits rocks i) where
  digits_long : length (take digits out') ≡ digits
  digits_long = length-take-le digits out' (omega (arith, k.few, k.size, room))

  pub reading_blank : i < length body → Blank (get_or body i 0) → ReadingPlain w h body out out' digits rocks (i + 1)
  reading_blank l b =
      record {
        within = omega arith;
        size = k.size;
        passed = rw (take_next body i l) (rw append-nil at (digits_append k.passed (skip (get_or body i 0) b (ended refl refl) refl)));
        few = k.few;
        marked = k.marked;
      }

  -- There is room for one digit more.
  pub reading_room : ¬ (digits ≡ h * w) → digits < length out'
  reading_room n = omega (arith, k.few, k.size, room)

  pub reading_bit : i < length body → BitByte (get_or body i 0) → ¬ (digits ≡ h * w)
      → ReadingPlain w h body out (set out' digits (get_or body i 0 - 48)) (digits + 1) (rocks + (get_or body i 0 - 48)) (i + 1)
  reading_bit l b n =
      record {
        within = omega arith;
        size = length-set out' digits (get_or body i 0 - 48) ∙ k.size;
        passed = rw (take_next body i l, front) (digits_append k.passed (bit_digits b));
        few = omega (arith, k.few);
        marked = omega (arith, k.marked, ones_snoc (take digits out') (get_or body i 0 - 48) (bit_value b).1, ap ones front);
      }
    where
      front : take (digits + 1) (set out' digits (get_or body i 0 - 48)) ≡ take digits out' ++ (get_or body i 0 - 48) ∷ []
      front = take_set out' digits (get_or body i 0 - 48) (reading_room n)

  -- No more rocks than digits, and no more digits than crossings.
  pub reading_few : rocks ≤ crossing_slots
  reading_few = omega (arith, k.marked, digits_long, k.few, ones-le (take digits out'), crossings_few sides)

  parted : i < length body → body ≡ take i body ++ get_or body i 0 ∷ drop (i + 1) body
  parted l = sym (take-append-drop i body) ∙ ap (λ (m : List ℕ). take i body ++ m) (left_cons body i l)

  pub read_long : i < length body → ¬ Blank (get_or body i 0) → digits ≡ h * w → PlainFault w h body long_raster
  read_long l b n =
      plain_long (take digits out') (take i body) (drop (i + 1) body) (get_or body i 0) k.passed (omega (arith, digits_long)) b (parted l) refl

  pub read_foreign : i < length body → ¬ Blank (get_or body i 0) → ¬ BitByte (get_or body i 0) → ¬ (digits ≡ h * w)
      → PlainFault w h body bad_header
  read_foreign l b c n =
      plain_foreign (take digits out') (take i body) (drop (i + 1) body) (get_or body i 0) k.passed (omega (arith, digits_long, k.few)) (foreign b c)
      (parted l) refl

  whole : length body ≤ i → Digits (take digits out') body
  whole l = subst (Digits (take digits out')) (take_all i body l) k.passed

  pub read_short : length body ≤ i → digits < h * w → PlainFault w h body short_raster
  read_short l n =
      plain_short (take digits out') (whole l) (omega (arith, digits_long)) refl

  pub read_good : length body ≤ i → h * w ≤ digits → RasterIn plain w h body out' rocks
  read_good l n =
      record {
        raster =
            subst (λ (s : ℕ). PlainRaster w h body (take s out')) (sym same)
            (record { digits = whole l; crossings = omega (arith, digits_long, k.few) });
        counted = rocks_marked w h (take (h * w) out') rocks (k.marked ∙ ap (λ (s : ℕ). ones (take s out')) (sym same));
      }
    where
      same : h * w ≡ digits
      same = omega (arith, k.few)
