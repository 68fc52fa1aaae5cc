-- The working agrees with the grammar both ways: what a file is, it is seen to be, step by step;
-- and what it is seen to be tells it.
use Rattle.std.specs.Prelude.{◌≡◌, refl, List, [], ◌∷◌, ◌++◌, ℕ, ◌*◌, ◌<◌, length, get_or}
use Rattle.std.proofs.Common.{sym, ap, subst, ◌∙◌, arith}
use Rattle.std.proofs.Math.Option.{Option, none, some}
use Rattle.std.proofs.Math.Decide.{dec_lt, ℕ_discrete}
use Rattle.field.specs.Map.{Sides, largest_value, old_largest}
use Rattle.field.specs.Limits.{largest_is, old_largest_is}
use Rattle.field.specs.Refusals.{bad_size, bad_sheet, bad_letters, bad_header, short_raster, long_raster, bad_largest}
use Rattle.mapfile.specs.Header.{Header}
use Rattle.mapfile.specs.HeaderWorking.{pick_yes, pick_no}
use Rattle.mapfile.specs.HeadingWorking.{Heading, heading, no_heading, heading_of, HeadingTold}
use Rattle.mapfile.proofs.HeadingWorking.{heading_told, heading_found}
use Rattle.mapfile.specs.FileWorking.{sides_dec, after_two, TwoTold}
use Rattle.mapfile.proofs.FileWorking.{two_told, two_found}
use Rattle.picturefile.specs.declared.Depth.{Depth}
use Rattle.picturefile.specs.declared.Depth.TheVariants.{OneByte, TwoBytes}
use Rattle.picturefile.specs.Depths.{largest_of, bytes_of}
use Rattle.picturefile.specs.DepthLaws.{drawn_one, drawn_of}
use Rattle.picturefile.specs.Picture.{
  picture_letters,
  Begins,
  PictureFile,
  PictureFault,
  no_letters,
  no_header,
  no_sides,
  other_largest,
  other_sheet,
  ends_early,
  goes_on,
}
use Rattle.picturefile.specs.Working.{
  Seen,
  a_picture,
  a_fault,
  sheet_of,
  length_seen,
  sheet_seen,
  largest_seen,
  sides_seen,
  headed_seen,
  letters_seen,
  picture_seen,
}

-- The steps of the tests: those of a kind of picture.
module _ (lent : ℕ) (d : Depth) (w h : ℕ) (body : List ℕ) where
  seen_picture_lem : length body ≡ h * w * bytes_of d → length_seen d w h body ≡ a_picture w h (sheet_of d w h body)
  unfolding length_seen
  seen_picture_lem e =
      pick_no (dec_lt (length body) (h * w * bytes_of d)) _ _ (λ l. omega arith)
      ∙ pick_no (dec_lt (h * w * bytes_of d) (length body)) _ _ (λ l. omega arith)

  seen_short : length body < h * w * bytes_of d → length_seen d w h body ≡ a_fault short_raster
  unfolding length_seen
  seen_short l = pick_yes (dec_lt (length body) (h * w * bytes_of d)) _ _ l

  seen_long : h * w * bytes_of d < length body → length_seen d w h body ≡ a_fault long_raster
  unfolding length_seen
  seen_long l =
      pick_no (dec_lt (length body) (h * w * bytes_of d)) _ _ (λ m. omega arith) ∙ pick_yes (dec_lt (h * w * bytes_of d) (length body)) _ _ l

  seen_sheet : lent ≡ h * w → sheet_seen lent d w h body ≡ length_seen d w h body
  unfolding sheet_seen
  seen_sheet e = pick_yes (ℕ_discrete lent (h * w)) _ _ e

  seen_no_sheet : ¬ (lent ≡ h * w) → sheet_seen lent d w h body ≡ a_fault bad_sheet
  unfolding sheet_seen
  seen_no_sheet n = pick_no (ℕ_discrete lent (h * w)) _ _ n

-- Those of the largest value, which tells the kind, and of the sides.
module _ (lent w h largest : ℕ) (body : List ℕ) where
  seen_largest : (d : Depth) → largest ≡ largest_of d → largest_seen lent w h largest body ≡ sheet_seen lent d w h body
  unfolding largest_seen
  seen_largest OneByte e = pick_yes (ℕ_discrete largest old_largest) _ _ e
  seen_largest TwoBytes e =
      pick_no (ℕ_discrete largest old_largest) _ _ (λ q. omega (arith, largest_is, old_largest_is)) ∙ pick_yes (ℕ_discrete largest largest_value) _ _ e

  seen_no_largest : ((d : Depth) → ¬ (largest ≡ largest_of d)) → largest_seen lent w h largest body ≡ a_fault bad_largest
  unfolding largest_seen
  seen_no_largest n =
      pick_no (ℕ_discrete largest old_largest) _ _ (n OneByte) ∙ pick_no (ℕ_discrete largest largest_value) _ _ (n TwoBytes)

  seen_sides : Sides w h → sides_seen lent w h largest body ≡ largest_seen lent w h largest body
  unfolding sides_seen
  seen_sides s = pick_yes (sides_dec w h) _ _ s

  seen_no_sides : ¬ Sides w h → sides_seen lent w h largest body ≡ a_fault bad_size
  unfolding sides_seen
  seen_no_sides n = pick_no (sides_dec w h) _ _ n

-- Past the header's tests, to the sheet's.
seen_kind : (lent : ℕ) (d : Depth) (w h : ℕ) (body : List ℕ) → Sides w h → sides_seen lent w h (largest_of d) body ≡ sheet_seen lent d w h body
seen_kind lent d w h body s = seen_sides lent w h (largest_of d) body s ∙ seen_largest lent w h (largest_of d) body d refl

-- And to the raster's.
seen_whole : (lent : ℕ) (d : Depth) (w h : ℕ) (body : List ℕ) → Sides w h → lent ≡ h * w
    → sides_seen lent w h (largest_of d) body ≡ length_seen d w h body
seen_whole lent d w h body s e = seen_kind lent d w h body s ∙ seen_sheet lent d w h body e

-- A beginning is seen by its three numbers.
pub begins_seen : {file body : List ℕ} {w h largest : ℕ} (lent : ℕ) → Begins file w h largest body
    → picture_seen file lent ≡ sides_seen lent w h largest body
unfolding picture_seen letters_seen headed_seen
begins_seen {file} {body} {w} {h} {largest} lent b =
    ap (letters_seen lent) (two_found 80 53 file b.after b.letters)
    ∙ ap (headed_seen lent) (heading_found b.header)

letters_seen_lem : {file : List ℕ} (lent : ℕ) → ((rest : List ℕ) → ¬ (file ≡ picture_letters ++ rest)) → picture_seen file lent ≡ a_fault bad_letters
unfolding picture_seen letters_seen
letters_seen_lem {file} lent n = go (after_two 80 53 file) (two_told 80 53 file)
  where
    go : (o : Option (List ℕ)) → TwoTold 80 53 file o → letters_seen lent o ≡ a_fault bad_letters
    go none t = refl
    go (some rest) t = absurd (n rest t)

-- Three numbers by their places.
pub three_values : (vs : List ℕ) → length vs ≡ 3 → vs ≡ get_or vs 0 0 ∷ get_or vs 1 0 ∷ get_or vs 2 0 ∷ []
three_values [] q = absurd (omega arith)
three_values (a ∷ []) q = absurd (omega arith)
three_values (a ∷ b ∷ []) q = absurd (omega arith)
three_values (a ∷ b ∷ c ∷ []) q = refl
three_values (a ∷ b ∷ c ∷ d ∷ vs) q = absurd (omega arith)

header_seen : {file : List ℕ} (lent : ℕ) (after : List ℕ) → file ≡ picture_letters ++ after
    → ((w h largest : ℕ) (body : List ℕ) → ¬ Header (w ∷ h ∷ largest ∷ []) after body) → picture_seen file lent ≡ a_fault bad_header
unfolding picture_seen letters_seen headed_seen
header_seen {file} lent after e n = ap (letters_seen lent) (two_found 80 53 file after e) ∙ go (heading_of 3 after) (heading_told 3 after)
  where
    go : (k : Heading) → HeadingTold 3 after k → headed_seen lent k ≡ a_fault bad_header
    go no_heading t = refl
    go (heading vs body) t =
        absurd (n (get_or vs 0 0) (get_or vs 1 0) (get_or vs 2 0) body (subst (λ (us : List ℕ). Header us after body) (three_values vs t.0) t.1))

-- Completeness.
pub picture_seen_lem : {file sheet : List ℕ} {w h : ℕ} (lent : ℕ) → PictureFile file w h sheet → lent ≡ h * w
    → picture_seen file lent ≡ a_picture w h sheet
picture_seen_lem {file} {sheet} {w} {h} lent p e =
    begins_seen lent p.begins
    ∙ seen_whole lent p.depth w h p.body p.sides e
    ∙ seen_picture_lem lent p.depth w h p.body p.drawn.whole
    ∙ ap (a_picture w h) (drawn_one (drawn_of p.depth w h p.body p.drawn.whole) p.drawn)

pub fault_seen : {file : List ℕ} {lent n : ℕ} → PictureFault file lent n → picture_seen file lent ≡ a_fault n
fault_seen {file} {lent} {n} (no_letters f e) = letters_seen_lem lent f ∙ ap a_fault (sym e)
fault_seen {file} {lent} {n} (no_header after l f e) = header_seen lent after l f ∙ ap a_fault (sym e)
fault_seen {file} {lent} {n} (no_sides w h m body b s e) = begins_seen lent b ∙ seen_no_sides lent w h m body s ∙ ap a_fault (sym e)
fault_seen {file} {lent} {n} (other_largest w h m body b s l e) =
    begins_seen lent b ∙ seen_sides lent w h m body s ∙ seen_no_largest lent w h m body l ∙ ap a_fault (sym e)
fault_seen {file} {lent} {n} (other_sheet d w h body b s l e) =
    begins_seen lent b ∙ seen_kind lent d w h body s ∙ seen_no_sheet lent d w h body l ∙ ap a_fault (sym e)
fault_seen {file} {lent} {n} (ends_early d w h body b s l m e) =
    begins_seen lent b ∙ seen_whole lent d w h body s l ∙ seen_short lent d w h body m ∙ ap a_fault (sym e)
fault_seen {file} {lent} {n} (goes_on d w h body b s l m e) =
    begins_seen lent b ∙ seen_whole lent d w h body s l ∙ seen_long lent d w h body m ∙ ap a_fault (sym e)

-- Soundness: what is seen tells the file.
abbrev pub PictureTold : List ℕ → ℕ → Seen → Type 0
PictureTold file lent (a_picture w h sheet) = PictureFile file w h sheet × (lent ≡ h * w)
PictureTold file lent (a_fault n) = PictureFault file lent n

-- Of the beginning of a kind of picture, by the tests of the sheet and the raster.
kind_told : {file body : List ℕ} {w h : ℕ} (lent : ℕ) (d : Depth) → Begins file w h (largest_of d) body → Sides w h
    → PictureTold file lent (sheet_seen lent d w h body)
kind_told {file} {body} {w} {h} lent d b s =
    go (ℕ_discrete lent (h * w)) (dec_lt (length body) (h * w * bytes_of d)) (dec_lt (h * w * bytes_of d) (length body))
  where
    told : {k : Seen} → sheet_seen lent d w h body ≡ k → PictureTold file lent k → PictureTold file lent (sheet_seen lent d w h body)
    told q t = subst (PictureTold file lent) (sym q) t

    go : Dec (lent ≡ h * w) → Dec (length body < h * w * bytes_of d) → Dec (h * w * bytes_of d < length body)
        → PictureTold file lent (sheet_seen lent d w h body)
    go (no l) p q = told (seen_no_sheet lent d w h body l) (other_sheet d w h body b s l refl)
    go (yes l) (yes p) q = told (seen_sheet lent d w h body l ∙ seen_short lent d w h body p) (ends_early d w h body b s l p refl)
    go (yes l) (no p) (yes q) = told (seen_sheet lent d w h body l ∙ seen_long lent d w h body q) (goes_on d w h body b s l q refl)
    go (yes l) (no p) (no q) =
        let e : length body ≡ h * w * bytes_of d = omega arith in
        told (seen_sheet lent d w h body l ∙ seen_picture_lem lent d w h body e)
        (record { depth = d; body = body; begins = b; sides = s; drawn = drawn_of d w h body e }, l)

-- Of any beginning, by its tests.
pub begins_told : {file body : List ℕ} {w h largest : ℕ} (lent : ℕ) → Begins file w h largest body → PictureTold file lent (sides_seen lent w h largest body)
begins_told {file} {body} {w} {h} {largest} lent b = go (sides_dec w h) (ℕ_discrete largest old_largest) (ℕ_discrete largest largest_value)
  where
    told : {k : Seen} → sides_seen lent w h largest body ≡ k → PictureTold file lent k → PictureTold file lent (sides_seen lent w h largest body)
    told q t = subst (PictureTold file lent) (sym q) t

    kind : (d : Depth) → largest ≡ largest_of d → Sides w h → PictureTold file lent (sides_seen lent w h largest body)
    kind d e s =
        told (seen_sides lent w h largest body s ∙ seen_largest lent w h largest body d e)
        (kind_told lent d (subst (λ (m : ℕ). Begins file w h m body) e b) s)

    neither : ¬ (largest ≡ old_largest) → ¬ (largest ≡ largest_value) → (d : Depth) → ¬ (largest ≡ largest_of d)
    neither m n OneByte e = m e
    neither m n TwoBytes e = n e

    go : Dec (Sides w h) → Dec (largest ≡ old_largest) → Dec (largest ≡ largest_value) → PictureTold file lent (sides_seen lent w h largest body)
    go (no s) m n = told (seen_no_sides lent w h largest body s) (no_sides w h largest body b s refl)
    go (yes s) (yes m) n = kind OneByte m s
    go (yes s) (no m) (yes n) = kind TwoBytes n s
    go (yes s) (no m) (no n) =
        told (seen_sides lent w h largest body s ∙ seen_no_largest lent w h largest body (neither m n))
        (other_largest w h largest body b s (neither m n) refl)
