-- What a row of the program's table comes to. The text of a map with few crossings is computed from
-- its bits, by the workings of `field`; a file in P1 whose sides have one digit each is a map.
use Rattle.std.specs.Prelude.{◌≡◌, length}
use Rattle.std.proofs.Math.Path.{refl}
use mathlib.Core.List.{List, [], ◌∷◌, ◌++◌}
use Prim.Native.Nat.{ℕ, zero, suc, ◌+◌, ◌*◌, ◌<◌, ◌≤◌}
use Rattle.std.proofs.Common.{arith}
use Rattle.field.specs.Map.{most_markers, tallest, Sides}
use Rattle.field.specs.Limits.{tallest_some}
use Rattle.field.specs.Labels.{sum_to, RockOn, Closed, closed_on_map, closed_stable, Shut, Count}
use Rattle.field.specs.Groups.{Groups}
use Rattle.field.specs.Workings.Tests.{bit, test_dec}
use Rattle.field.specs.Workings.Sheet.{Draws, lit, west_of, south_of, around, row, rows_from, sheet}
use Rattle.field.specs.Workings.Closing.{closing, until, sweep, next, marks}
use Rattle.field.proofs.Workings.Closing.{closing_draws}
use Rattle.field.specs.Workings.Stamping.{stamp, rock_of, stands}
use Rattle.field.proofs.Workings.Stamping.{stamp_draws}
use Rattle.field.proofs.Workings.Labelling.{labelling, labels_from, labelling_labels, alone, shut_looks}
use Rattle.field.proofs.Workings.Counting.{tally, count_marks, count_tests}
use Rattle.field.proofs.Workings.Corners.{corner_of, groups_of, groups_look}
use Rattle.mapfile.specs.Header.{Blank, space, feed, no_items, blank_item, Separator, most_digits, value_from, Number, Header, last_blank_lem, next_number_lem}
use Rattle.mapfile.specs.Raster.{Digits}
use Rattle.mapfile.specs.File.{MapFile, plain, FileRock, markers_from, markers_of}
use Rattle.mapfile.specs.PlainLaws.{AllDigits}
use Rattle.mapfile.proofs.RockLaws.{markers_of_lem}
use Rattle.printing.specs.Printed as printed
use Rattle.printing.specs.Printed.{Printed, Line, last_number}
use Rattle.mapfile.specs.Following.{most_bytes}
use Rattle.chart.specs.Promise.{Picture, Charted, shown}
use Rattle.packing.specs.Packing.{pieces}
use Rattle.chart.specs.Drawing.{sign_of, sign_at, row_of, picture_of}
use Rattle.chart.specs.DrawingLaws.{picture_drawn}

-- One digit: its value, and so the number as a header has it and as it is printed.
digit_all : (v : ℕ) → v < 10 → AllDigits ((48 + v) ∷ [])
digit_all v l zero k = record { from_zero = omega arith; to_nine = omega arith }
digit_all v l (suc i) k = absurd (omega arith)

digit_value : (v : ℕ) → v ≡ value_from 0 ((48 + v) ∷ [])
unfolding value_from
digit_value v = omega arith

digit_number : (v : ℕ) → v < 10 → Number v ((48 + v) ∷ [])
unfolding most_digits
digit_number v l = record { digits = digit_all v l; some = omega arith; few = omega arith; value = digit_value v }

digit_printed : (v : ℕ) → v < 10 → Printed v ((48 + v) ∷ [])
digit_printed v l = record { digits = digit_all v l; some = omega arith; value = digit_value v; leading = λ k. absurd (omega arith) }

-- LF, a side, space, a side, LF: a header, whatever follows it.
blank_separator : (b : ℕ) → Blank b → Separator (b ∷ [])
blank_separator b p = record { blanks = 1; some = omega arith; items = blank_item {n = 0} b p (no_items refl refl) refl refl }

two_sides : (w h : ℕ) (body : List ℕ) → w < 10 → h < 10 → Header (w ∷ h ∷ []) (10 ∷ (48 + w) ∷ 32 ∷ (48 + h) ∷ 10 ∷ body) body
two_sides w h body p q =
    record {
      bytes = 10 ∷ (48 + w) ∷ 32 ∷ (48 + h) ∷ 10 ∷ [];
      numbers = next_number_lem w (10 ∷ []) ((48 + w) ∷ []) (32 ∷ (48 + h) ∷ 10 ∷ []) (blank_separator 10 (feed refl)) (digit_number w p)
          (next_number_lem h (32 ∷ []) ((48 + h) ∷ []) (10 ∷ []) (blank_separator 32 (space refl)) (digit_number h q) (last_blank_lem 10 (feed refl) refl refl) refl refl)
          refl refl;
      is = refl;
    }

-- Bytes of a P1 raster after the letters and such a header are a map.
pub plain_map : (w h : ℕ) (body : List ℕ) {bits : List ℕ} → Sides w h → w < 10 → h < 10 → Digits bits body → length bits ≡ h * w
    → MapFile (80 ∷ 49 ∷ 10 ∷ (48 + w) ∷ 32 ∷ (48 + h) ∷ 10 ∷ body) w h bits
plain_map w h body sides p q d size =
    record {
      format = plain;
      after = 10 ∷ (48 + w) ∷ 32 ∷ (48 + h) ∷ 10 ∷ body;
      body = body;
      letters = refl;
      header = two_sides w h body p q;
      sides = sides;
      raster = record { digits = d; crossings = size };
    }

-- The first line of one-digit numbers.
line_of : (a b c d e : ℕ) → a < 10 → b < 10 → c < 10 → d < 10 → e < 10
    → Line (a ∷ b ∷ c ∷ d ∷ e ∷ []) ((48 + a) ∷ 32 ∷ (48 + b) ∷ 32 ∷ (48 + c) ∷ 32 ∷ (48 + d) ∷ 32 ∷ (48 + e) ∷ 10 ∷ [])
line_of a b c d e p q r s t =
    number_next a p (number_next b q (number_next c r (number_next d s (last_number e ((48 + e) ∷ []) (digit_printed e t) refl refl))))
  where
    number_next : (v : ℕ) {us k : List ℕ} → v < 10 → Line us k → Line (v ∷ us) ((48 + v) ∷ 32 ∷ k)
    number_next v {us} {k} l m = printed.next_number_lem v ((48 + v) ∷ []) k (digit_printed v l) m refl refl

-- The sheets and numbers of a file's map, computed.
module _ (w h : ℕ) (bits : List ℕ) where
  unfoldable pub stones : List ℕ
  stones = stamp w h 0 (markers_of w h bits)

  unfoldable pub labels_of : List ℕ
  labels_of = labelling w h stones

  unfoldable pub rock_count : ℕ
  rock_count = tally w h (lit stones w h)

  unfoldable pub shut_count : ℕ
  shut_count = tally w h (λ x y. bit (alone w h stones (closing w h stones) x y))

  unfoldable pub group_count : ℕ
  group_count = groups_of (closing w h stones) w h

  -- The text, where each of the five numbers has one digit. To unfold it is to unfold every working
  -- that it is computed with.
  unfoldable pub text_of : List ℕ
  unfolding tallest sum_to lit west_of south_of around row rows_from sheet closing until sweep next marks stamp rock_of stands labelling labels_from alone tally corner_of groups_of markers_from markers_of pieces sign_of sign_at row_of picture_of stones labels_of rock_count shut_count group_count
  text_of =
      ((48 + w) ∷ 32 ∷ (48 + h) ∷ 32 ∷ (48 + rock_count) ∷ 32 ∷ (48 + shut_count) ∷ 32 ∷ (48 + group_count) ∷ 10 ∷ []) ++ picture_of labels_of w h

-- Each of the five numbers has one digit.
pub record Small (w h : ℕ) (bits : List ℕ) : Type 0 where
  pub width : w < 10
  pub height : h < 10
  pub rocks : rock_count w h bits < 10
  pub shut : shut_count w h bits < 10
  pub groups : group_count w h bits < 10

module _ {file bits : List ℕ} {w h : ℕ} (m : MapFile file w h bits) where
  abbrev R : ℕ → ℕ → Type 0
  R = FileRock w h bits

  abbrev r : List ℕ
  r = stones w h bits

  abbrev c : List ℕ
  c = closing w h r

  rocks_draw : Draws w h (RockOn R w h) r
  unfolding stones
  rocks_draw =
      let d = stamp_draws 0 w h (markers_of w h bits) in
      record {
        sound = λ x y k. let s = d.sound x y k in record { on = s.on; stone = (markers_of_lem m 0 x y tallest_some).0 s.stone };
        complete = λ x y k. d.complete x y (record { on = k.on; stone = (markers_of_lem m 0 x y tallest_some).1 k.stone });
      }

  closed_draw : Draws w h (Closed R w h) c
  closed_draw = closing_draws w h R r rocks_draw

  rocks_are : Count w h (RockOn R w h) (rock_count w h bits)
  unfolding rock_count
  rocks_are = (count_marks w h (RockOn R w h) r rocks_draw (rock_count w h bits)).1 refl

  shut_are : Count w h (Shut R w h) (shut_count w h bits)
  unfolding shut_count
  shut_are =
      let looks = shut_looks R w h r c rocks_draw closed_draw in
      count_tests w h (Shut R w h) (alone w h r c) (λ x y o. looks x y) (λ x y. test_dec (alone w h r c x y) (looks x y))

  groups_are : Groups w h (Closed R w h) (group_count w h bits)
  unfolding group_count
  groups_are = groups_look w h (Closed R w h) c closed_draw (closed_on_map R w h) (closed_stable R w h)

  picture_is : Picture R w h (picture_of (labels_of w h bits) w h)
  unfolding labels_of
  picture_is = picture_drawn (labels_of w h bits) w h R (labelling_labels R w h r rocks_draw)

  -- The text so computed is the text of the file.
  pub text_shown : length file ≤ most_bytes → length (markers_of w h bits) ≤ most_markers → Small w h bits → Charted file (text_of w h bits)
  unfolding text_of
  text_shown l k small =
      let p = small.width in
      let q = small.height in
      let a = small.rocks in
      let b = small.shut in
      let d = small.groups in
      shown w h (rock_count w h bits) (shut_count w h bits) (group_count w h bits) bits _ _ l m k rocks_are shut_are groups_are
      (line_of w h (rock_count w h bits) (shut_count w h bits) (group_count w h bits) p q a b d) picture_is refl
