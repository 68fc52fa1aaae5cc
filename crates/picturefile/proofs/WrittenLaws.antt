-- What writing gives is one list of bytes, and a picture by the grammar with the same sheet: what
-- is written reads back as the same sheet, and what is read and written again is our writer's form
-- of it. An old picture is a picture of its sheet with the new mark.
use Rattle.std.specs.Prelude.{◌≡◌, refl, List, [], ◌∷◌, ◌++◌, ℕ, zero, suc, ◌<◌, length, get_or}
use Rattle.std.proofs.Common.{sym, ap, subst, ◌∙◌, append_assoc, arith, ext_get_or}
use Rattle.field.specs.Map.{Sides, On, at, number, largest_value}
use Rattle.field.specs.Workings.Sheet.{number_lt}
use Rattle.mapfile.specs.Header.{feed, space, Number, Numbers, last_blank_lem, next_number_lem}
use Rattle.mapfile.specs.File.{raster_place}
use Rattle.mapfile.proofs.WrittenLaws.{blank_separator}
use Rattle.mapfile.specs.PlainLaws.{plain_one}
use Rattle.picturefile.specs.declared.Depth.TheVariants.{OneByte, TwoBytes}
use Rattle.picturefile.specs.Depths.{Renewed, Drawn}
use Rattle.picturefile.specs.DepthLaws.{renewed_one, renewed_of_lem, raster_one}
use Rattle.picturefile.specs.Picture.{Begins, PictureFile}
use Rattle.picturefile.specs.Written.{Filed, PictureWritten, OldWritten, SheetRenewed}
use Rattle.picturefile.specs.Working.{renewed_of}
use Rattle.picturefile.proofs.PictureLaws.{picture_one}

-- One outcome.
filed_one : {w h value : ℕ} {rows file other : List ℕ} → Filed w h value rows file → Filed w h value rows other → file ≡ other
filed_one {w} {h} {value} {rows} {file} {other} p q =
    let width : p.width ≡ q.width = plain_one w p.width q.width p.width_is q.width_is in
    let height : p.height ≡ q.height = plain_one h p.height q.height p.height_is q.height_is in
    let largest : p.largest ≡ q.largest = plain_one value p.largest q.largest p.largest_is q.largest_is in
    p.is ∙ rw (width, height, largest) (sym q.is)

pub written_one : {w h : ℕ} {sheet file other : List ℕ} → PictureWritten w h sheet file → PictureWritten w h sheet other → file ≡ other
written_one {w} {h} {sheet} {file} {other} p q =
    let rows : q.rows ≡ p.rows = raster_one q.bytes p.bytes q.drawn p.drawn in
    filed_one p.filed (subst (λ (l : List ℕ). Filed w h largest_value l other) rows q.filed)

-- The header: a blank and a number three times, and a blank.
header_numbers : (w h m : ℕ) (width height largest : List ℕ) → Number w width → Number h height → Number m largest
    → Numbers (w ∷ h ∷ m ∷ []) (10 ∷ width ++ (32 ∷ height ++ (10 ∷ largest ++ 10 ∷ [])))
header_numbers w h m width height largest p q r =
    next_number_lem w (10 ∷ []) width (32 ∷ height ++ (10 ∷ largest ++ 10 ∷ [])) (blank_separator 10 (feed refl)) p
    (next_number_lem h (32 ∷ []) height (10 ∷ largest ++ 10 ∷ []) (blank_separator 32 (space refl)) q
    (next_number_lem m (10 ∷ []) largest (10 ∷ []) (blank_separator 10 (feed refl)) r (last_blank_lem 10 (feed refl) refl refl) refl refl)
    refl refl)
    refl refl

-- A file with such a header begins as a picture does, and the rows follow.
filed_begins : {w h value : ℕ} {rows file : List ℕ} → Filed w h value rows file → Begins file w h value rows
filed_begins {w} {h} {value} {rows} {file} p =
    record {
      after = 10 ∷ p.width ++ 32 ∷ p.height ++ 10 ∷ p.largest ++ 10 ∷ rows;
      letters = p.is;
      header = record {
        bytes = 10 ∷ p.width ++ (32 ∷ p.height ++ (10 ∷ p.largest ++ 10 ∷ []));
        numbers = header_numbers w h value p.width p.height p.largest p.width_is.number p.height_is.number p.largest_is.number;
        is = split p.width p.height p.largest rows;
      };
    }
  where
    split : (a b c d : List ℕ) → 10 ∷ a ++ 32 ∷ b ++ 10 ∷ c ++ 10 ∷ d ≡ 10 ∷ a ++ (32 ∷ b ++ (10 ∷ c ++ 10 ∷ [])) ++ d
    split a b c d = simp append_assoc

pub written_picture : {w h : ℕ} {sheet file : List ℕ} → Sides w h → PictureWritten w h sheet file → PictureFile file w h sheet
written_picture sides p = record { depth = TwoBytes; body = p.rows; begins = filed_begins p.filed; sides = sides; drawn = p.drawn }

-- "Old one-byte sheets are still read, their 255 becoming 65,535."
pub old_picture_reads : {w h : ℕ} {old sheet file : List ℕ} → Sides w h → OldWritten w h old file → SheetRenewed old sheet → PictureFile file w h sheet
old_picture_reads {w} {h} {old} {sheet} {file} sides p r =
    record { depth = OneByte; body = p.rows; begins = filed_begins p.filed; sides = sides; drawn = drawn }
  where
    number_of : (x y : ℕ) → On w h x y → Renewed (get_or p.rows (raster_place w h x y) 0) (at sheet w x y)
    number_of x y o =
        subst (λ (b : ℕ). Renewed b (at sheet w x y)) (p.turned.is x y o) (r.is (number w x y) (omega (arith, number_lt w h x y o, p.turned.size)))

    drawn : Drawn OneByte w h p.rows sheet
    drawn = record { whole = p.size ∙ omega arith; size = r.size ∙ p.turned.size; is = number_of }

-- A sheet with the new mark, worked out; and there is no other.
unfoldable pub renewed : List ℕ → List ℕ
renewed [] = []
renewed (b ∷ bs) = renewed_of b ∷ renewed bs

pub sheet_renewed : (old : List ℕ) → SheetRenewed old (renewed old)
unfolding renewed
sheet_renewed old = record { size = size old; is = is old }
  where
    size : (l : List ℕ) → length (renewed l) ≡ length l
    size [] = refl
    size (b ∷ bs) = ap suc (size bs)

    is : (l : List ℕ) (i : ℕ) → i < length l → Renewed (get_or l i 0) (get_or (renewed l) i 0)
    is [] i m = absurd (omega arith)
    is (b ∷ bs) zero m = renewed_of_lem b
    is (b ∷ bs) (suc i) m = is bs i (omega arith)

pub sheet_renewed_one : {old sheet other : List ℕ} → SheetRenewed old sheet → SheetRenewed old other → sheet ≡ other
sheet_renewed_one {old} {sheet} {other} p q =
    ext_get_or 0 sheet other (p.size ∙ sym q.size)
    (λ i l. let m : i < length old = omega (arith, p.size) in renewed_one (p.is i m) (q.is i m))

-- "What is written reads back as the same sheet."
pub read_written : {w h w' h' : ℕ} {sheet other file : List ℕ} → Sides w h → PictureWritten w h sheet file → PictureFile file w' h' other
    → (w' ≡ w) × (h' ≡ h) × (other ≡ sheet)
read_written sides p q = picture_one q (written_picture sides p)

-- What is read and written again is a picture of the same sheet; and where the file read was our
-- writer's, it is that file, byte for byte.
pub write_read : {w h : ℕ} {sheet file again : List ℕ} → PictureFile file w h sheet → PictureWritten w h sheet again → PictureFile again w h sheet
write_read p q = written_picture p.sides q

pub write_read_written : {w h w' h' : ℕ} {sheet other file again : List ℕ} → Sides w h → PictureWritten w h sheet file → PictureFile file w' h' other
    → PictureWritten w' h' other again → again ≡ file
write_read_written {w} {h} {w'} {h'} {sheet} {other} {file} {again} sides p q r =
    let e = read_written sides p q in
    written_one (rw (e.0, e.1, e.2) at r) p
