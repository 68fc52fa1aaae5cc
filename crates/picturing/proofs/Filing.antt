-- The pieces that the code writes are the whole file of the promise, and its length is the one that
-- the code works out first.
use mathlib.Core.Path.{◌≡◌, refl, ◌∙◌}
use mathlib.Core.List.{List, [], ◌∷◌, ◌++◌, append_assoc}
use Prim.Native.Nat.{ℕ, ◌+◌, ◌*◌, ◌<◌}
use native.Mathlib.Omega.{arith}
use lib.ListN.{length, get_or, length-append}
use Rattle.field.specs.Map.{Sides, largest_value}
use Rattle.field.specs.Limits.{largest_is}
use Rattle.mapfile.specs.Header.{most_digits}
use Rattle.mapfile.specs.Written.{Plain}
use Rattle.writer.specs.Digits.{DigitCount, digits_of, header_of}
use Rattle.writer.specs.DigitLaws.{digits_length, digits_plain}
use Rattle.writer.specs.FileLaws.{header_length, side_plain}
use Rattle.picturefile.specs.Picture.{picture_letters}
use Rattle.picturefile.specs.Written.{PictureWritten}
use Rattle.picturing.specs.Rasters.{raster_of}
use Rattle.picturing.specs.RasterLaws.{raster_drawn, raster_small}

-- The largest value has five digits.
largest_digits : DigitCount largest_value 5
largest_digits = rw largest_is (record { some = omega arith; enough = omega arith; needed = omega arith })

largest_plain : Plain largest_value (digits_of 5 largest_value)
unfolding most_digits
largest_plain = digits_plain largest_value 5 (omega (arith, largest_is)) (omega (arith, largest_is)) largest_digits

-- The largest value and LF.
abbrev pub largest_line : List ℕ
largest_line = digits_of 5 largest_value ++ 10 ∷ []

-- The whole file, where the width has a digits and the height b.
unfoldable pub file_of : ℕ → ℕ → ℕ → ℕ → List ℕ → List ℕ
file_of w a h b rows = (header_of picture_letters w a h b ++ largest_line) ++ rows

pub file_length : (w a h b : ℕ) (rows : List ℕ) → length rows ≡ h * (w * 2) → length (file_of w a h b rows) ≡ a + b + 5 + 6 + h * (w * 2)
unfolding file_of
file_length w a h b rows e =
    length-append (header_of picture_letters w a h b ++ largest_line) rows
    ∙ omega (
      arith,
      length-append (header_of picture_letters w a h b) largest_line,
      length-append (digits_of 5 largest_value) (10 ∷ []),
      header_length picture_letters w a h b refl,
      digits_length 5 largest_value,
    )

-- The pieces one after the other.
joined : (p c d n e l rows : List ℕ) → ((((p ++ c) ++ d) ++ n) ++ (e ++ l)) ++ rows ≡ (((p ++ c) ++ d) ++ (n ++ e)) ++ (l ++ rows)
joined p c d n e l rows = simp append_assoc

pieces_joined : (p c d e rows : List ℕ)
    → ((p ++ 10 ∷ c ++ 32 ∷ d ++ 10 ∷ []) ++ (e ++ 10 ∷ [])) ++ rows ≡ p ++ 10 ∷ c ++ 32 ∷ d ++ 10 ∷ e ++ 10 ∷ rows
pieces_joined p c d e rows = joined p (10 ∷ c) (32 ∷ d) (10 ∷ []) e (10 ∷ []) rows

-- A sheet of sixteen-bit numbers, in a file.
pub file_written : {w a h b : ℕ} (sheet : List ℕ) → Sides w h → DigitCount w a → DigitCount h b → length sheet ≡ h * w → ((k : ℕ) → get_or sheet k 0 < 65536)
    → PictureWritten w h sheet (file_of w a h b (raster_of sheet w h))
unfolding file_of header_of
file_written {w} {a} {h} {b} sheet s p q size small =
    record {
      rows = raster_of sheet w h;
      bytes = raster_small sheet w h small;
      drawn = raster_drawn sheet w h size;
      filed = record {
        width = digits_of a w;
        height = digits_of b h;
        largest = digits_of 5 largest_value;
        width_is = side_plain w a s.some_w s.most_w p;
        height_is = side_plain h b s.some_h s.most_h q;
        largest_is = largest_plain;
        is = pieces_joined picture_letters (digits_of a w) (digits_of b h) (digits_of 5 largest_value) (raster_of sheet w h);
      };
    }
