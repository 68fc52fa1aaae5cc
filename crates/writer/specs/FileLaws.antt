-- Header and rows together are the whole file of the promise, and its length is the one that the
-- code works out first.
use Rattle.std.specs.Prelude.{◌≡◌, refl, List, [], ◌∷◌, ◌++◌, ℕ, ◌+◌, ◌*◌, ◌^◌, ◌<◌, ◌≤◌, length}
use Rattle.std.proofs.Common.{◌∙◌, append_assoc, arith, length-append}
use Rattle.field.specs.Map.{side, Sides}
use Rattle.field.specs.Workings.Sheet.{Marked}
use Rattle.mapfile.specs.Raster.{row_bytes}
use Rattle.mapfile.specs.File.{raw_letters}
use Rattle.mapfile.specs.Header.{most_digits}
use Rattle.mapfile.specs.Written.{Plain, Written}
use Rattle.writer.specs.Digits.{DigitCount, digits_of, header_of}
use Rattle.writer.specs.DigitLaws.{digits_length, digits_few, digits_plain}
use Rattle.packing.specs.Packing.{rows_of}
use Rattle.packing.specs.RowLaws.{rows_length, rows_packed}

-- The whole file, where the width has a digits and the height b.
unfoldable pub file_of : List ℕ → ℕ → ℕ → ℕ → ℕ → List ℕ
file_of s w a h b = header_of raw_letters w a h b ++ rows_of s w h

pub header_length : (letters : List ℕ) (w a h b : ℕ) → length letters ≡ 2 → length (header_of letters w a h b) ≡ a + b + 5
unfolding header_of
header_length letters w a h b two =
    simp (length-append, digits_length) (omega arith)

pub file_length : (s : List ℕ) (w a h b : ℕ) → length (file_of s w a h b) ≡ a + b + 5 + h * row_bytes w
unfolding file_of
file_length s w a h b = length-append (header_of raw_letters w a h b) (rows_of s w h) ∙ omega (arith, header_length raw_letters w a h b refl, rows_length s w h)

-- A side has no more digits than the grammar allows.
side_short : (v : ℕ) → v ≤ side → v < 10 ^ most_digits
unfolding side most_digits
side_short v l = omega arith

pub side_few : {v n : ℕ} → v ≤ side → DigitCount v n → n ≤ most_digits
unfolding most_digits
side_few {v} l c = digits_few c most_digits (omega arith) (side_short v l)

pub side_plain : (v n : ℕ) → 1 ≤ v → v ≤ side → DigitCount v n → Plain v (digits_of n v)
side_plain v n some l c = digits_plain v n some (side_short v l) c

pub file_written : (s : List ℕ) (w a h b : ℕ) → Sides w h → DigitCount w a → DigitCount h b → Written w h (Marked s w h) (file_of s w a h b)
unfolding file_of header_of
file_written s w a h b sides p q =
    record {
      width = digits_of a w;
      height = digits_of b h;
      rows = rows_of s w h;
      width_is = side_plain w a sides.some_w sides.most_w p;
      height_is = side_plain h b sides.some_h sides.most_h q;
      rows_are = rows_packed s w h;
      is = append_assoc (raw_letters ++ 10 ∷ digits_of a w ++ 32 ∷ digits_of b h) (10 ∷ []) (rows_of s w h);
    }
