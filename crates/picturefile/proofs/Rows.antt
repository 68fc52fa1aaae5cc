-- A test for each row of the table of small pictures, which the checker computes, and that a row
-- which passes its test holds.
use Rattle.std.specs.Prelude.{◌≡◌, Bool, true, false, ◌&&◌, List, ◌∷◌, ◌++◌, ℕ, ◌+◌, ◌*◌, eqb, length, take, drop}
use Rattle.std.proofs.Common.{subst, eqb-true}
use Rattle.std.proofs.lemmas.Bool.{false≢true}
use Rattle.field.specs.Map.{largest_value}
use Rattle.field.specs.Workings.Tests.{and_split, only}
use Rattle.field.proofs.Workings.RowTests.{same, same_is}
use Rattle.field.proofs.Workings.Corners.{every}
use Rattle.mapfile.proofs.Rows.{plain_of, plain_of_lem, byte_of, byte_of_lem, digits_in}
use Rattle.picturefile.specs.declared.Depth.TheVariants.{TwoBytes}
use Rattle.picturefile.specs.Depths.{Drawn}
use Rattle.picturefile.specs.DepthLaws.{drawn_of}
use Rattle.picturefile.specs.Picture.{picture_letters, PictureFile, PictureFault}
use Rattle.picturefile.specs.Written.{Filed, PictureWritten}
use Rattle.picturefile.specs.Working.{Seen, a_picture, a_fault, sheet_of, picture_seen}
use Rattle.picturefile.proofs.WorkingLaws.{PictureTold}
use Rattle.picturefile.proofs.PictureLaws.{picture_told}
use Rattle.picturefile.proofs.WrittenLaws.{written_one}
use Rattle.picturefile.specs.Table.{Row, is_picture, has_fault, is_written, Holds}

-- What a file is seen to be is this picture, or this fault.
unfoldable pub seen_picture : ℕ → ℕ → List ℕ → Seen → Bool
seen_picture w h sheet (a_picture a b s) = (eqb a w && eqb b h) && same s sheet
seen_picture w h sheet (a_fault n) = false

unfoldable pub seen_fault : ℕ → Seen → Bool
seen_fault n (a_picture a b s) = false
seen_fault n (a_fault k) = eqb k n

seen_picture_lem : (file : List ℕ) (lent w h : ℕ) (sheet : List ℕ) (o : Seen) → PictureTold file lent o → seen_picture w h sheet o ≡ true
    → PictureFile file w h sheet
unfolding seen_picture
seen_picture_lem file lent w h sheet (a_picture a b s) t e =
    let f = and_split _ _ e in
    let g = and_split _ _ f.0 in
    rw (← eqb-true a w g.0, ← eqb-true b h g.1, ← same_is s sheet f.1) t.0
seen_picture_lem file lent w h sheet (a_fault n) t e = absurd (false≢true e)

seen_fault_lem : (file : List ℕ) (lent n : ℕ) (o : Seen) → PictureTold file lent o → seen_fault n o ≡ true → PictureFault file lent n
unfolding seen_fault
seen_fault_lem file lent n (a_picture a b s) t e = absurd (false≢true e)
seen_fault_lem file lent n (a_fault k) t e = subst (PictureFault file lent) (eqb-true k n e) t

-- A file as writing gives it: its parts are taken out by their places. A side has one digit or two,
-- the largest value five.
unfoldable pub width_in : ℕ → List ℕ → List ℕ
width_in w file = take (digits_in w) (drop 3 file)

unfoldable pub height_in : ℕ → ℕ → List ℕ → List ℕ
height_in w h file = take (digits_in h) (drop (digits_in w + 4) file)

unfoldable pub largest_in : ℕ → ℕ → List ℕ → List ℕ
largest_in w h file = take 5 (drop (digits_in w + digits_in h + 5) file)

unfoldable pub rows_in : ℕ → ℕ → List ℕ → List ℕ
rows_in w h file = drop (digits_in w + digits_in h + 11) file

unfoldable pub parts_in : ℕ → ℕ → List ℕ → List ℕ
parts_in w h file = picture_letters ++ 10 ∷ width_in w file ++ 32 ∷ height_in w h file ++ 10 ∷ largest_in w h file ++ 10 ∷ rows_in w h file

unfoldable pub filed_of : ℕ → ℕ → List ℕ → Bool
filed_of w h file =
    (plain_of w (width_in w file) && plain_of h (height_in w h file)) && (plain_of largest_value (largest_in w h file) && same file (parts_in w h file))

filed_of_lem : (w h : ℕ) (file : List ℕ) → filed_of w h file ≡ true → Filed w h largest_value (rows_in w h file) file
unfolding filed_of parts_in
filed_of_lem w h file e =
    let g = and_split _ _ e in
    let i = and_split _ _ g.0 in
    let j = and_split _ _ g.1 in
    record {
      width = width_in w file;
      height = height_in w h file;
      largest = largest_in w h file;
      width_is = plain_of_lem w (width_in w file) i.0;
      height_is = plain_of_lem h (height_in w h file) i.1;
      largest_is = plain_of_lem largest_value (largest_in w h file) j.0;
      is = same_is file _ j.1;
    }

unfoldable pub written_of : ℕ → ℕ → List ℕ → List ℕ → Bool
written_of w h sheet file =
    (filed_of w h file && every (length (rows_in w h file)) (byte_of (rows_in w h file)))
    && (eqb (length (rows_in w h file)) (h * w * 2) && same (sheet_of TwoBytes w h (rows_in w h file)) sheet)

written_of_lem : (w h : ℕ) (sheet file : List ℕ) → written_of w h sheet file ≡ true → PictureWritten w h sheet file
unfolding written_of
written_of_lem w h sheet file e =
    let f = and_split _ _ e in
    let g = and_split _ _ f.0 in
    let k = and_split _ _ f.1 in
    record {
      rows = rows_in w h file;
      bytes = byte_of_lem (rows_in w h file) g.1;
      drawn = subst (Drawn TwoBytes w h (rows_in w h file)) (same_is _ sheet k.1) (drawn_of TwoBytes w h (rows_in w h file) (eqb-true _ _ k.0));
      filed = filed_of_lem w h file g.0;
    }

-- The tests. A picture is looked at for a sheet of its own size.
unfoldable pub passes : Row → Bool
passes (is_picture file w h sheet) = seen_picture w h sheet (picture_seen file (h * w))
passes (has_fault file lent n) = seen_fault n (picture_seen file lent)
passes (is_written w h sheet file) = written_of w h sheet file

pub passes_holds : (r : Row) → passes r ≡ true → Holds r
unfolding passes
passes_holds (is_picture file w h sheet) e = seen_picture_lem file (h * w) w h sheet (picture_seen file (h * w)) (picture_told file (h * w)) e
passes_holds (has_fault file lent n) e = seen_fault_lem file lent n (picture_seen file lent) (picture_told file lent) e
passes_holds (is_written w h sheet file) e =
    only (PictureWritten w h sheet) file (written_of_lem w h sheet file e) (λ a b p q. written_one p q)
