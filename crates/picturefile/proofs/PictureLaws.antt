-- A file is one picture at most, whatever sheet is lent, and for a sheet it has one fault at most;
-- with a fault it is no picture for that sheet. All three follow from the working, which sees one
-- thing. And a file is a picture for a sheet or has a fault.
use Rattle.std.specs.Prelude.{◌≡◌, ℕ, ◌*◌, get_or}
use Rattle.std.proofs.Math.Path.{refl, subst}
use Rattle.std.proofs.Common.{sym, ◌∙◌, arith}
use mathlib.Core.List.{List, [], ◌∷◌, ◌++◌}
use Rattle.std.proofs.Math.Option.{Option, none, some}
use Rattle.mapfile.specs.Header.{Header}
use Rattle.mapfile.specs.HeadingWorking.{Heading, heading, no_heading, heading_of, HeadingTold}
use Rattle.mapfile.proofs.HeadingWorking.{heading_told}
use Rattle.mapfile.proofs.HeaderLaws.{headers_one}
use Rattle.mapfile.specs.FileWorking.{after_two, TwoTold}
use Rattle.mapfile.proofs.FileWorking.{two_told}
use Rattle.picturefile.specs.DepthLaws.{depth_one, drawn_one}
use Rattle.picturefile.specs.Picture.{picture_letters, Begins, PictureFile, PictureFault, no_letters, no_header, no_sides, other_largest, other_sheet, ends_early, goes_on}
use Rattle.picturefile.specs.Working.{a_picture, a_fault, headed_seen, letters_seen, picture_seen}
use Rattle.picturefile.proofs.WorkingLaws.{three_values, picture_seen_lem, fault_seen, PictureTold, begins_told}

-- A file has one beginning.
pub begins_one : {file body body' : List ℕ} {w h m w' h' m' : ℕ} → Begins file w h m body → Begins file w' h' m' body'
    → (w ≡ w') × (h ≡ h') × (m ≡ m') × (body ≡ body')
begins_one {file} {body} {body'} {w} {h} {m} {w'} {h'} {m'} a b =
    let l : 80 ∷ 53 ∷ b.after ≡ 80 ∷ 53 ∷ a.after = sym b.letters ∙ a.letters in
    let same : b.after ≡ a.after = cc in
    let e = headers_one refl a.header (subst (λ (r : List ℕ). Header (w' ∷ h' ∷ m' ∷ []) r body') same b.header) in
    let values : w ∷ h ∷ m ∷ [] ≡ w' ∷ h' ∷ m' ∷ [] = e.0 in
    (cc, cc, cc, e.1)

pub picture_one : {file sheet sheet' : List ℕ} {w h w' h' : ℕ} → PictureFile file w h sheet → PictureFile file w' h' sheet'
    → (w ≡ w') × (h ≡ h') × (sheet ≡ sheet')
picture_one {file} {sheet} {sheet'} {w} {h} {w'} {h'} p q =
    let e = begins_one p.begins q.begins in
    let a : w ≡ w' = e.0 in
    let b : h ≡ h' = e.1 in
    let c : q.body ≡ p.body = sym e.3 in
    let d : q.depth ≡ p.depth = sym (depth_one p.depth q.depth e.2) in
    (a, b, drawn_one p.drawn (rw (a, b, ← c, ← d) q.drawn))

pub picture_fault_one : {file : List ℕ} {lent n m : ℕ} → PictureFault file lent n → PictureFault file lent m → n ≡ m
picture_fault_one {file} {lent} {n} {m} a b = let e : a_fault n ≡ a_fault m = sym (fault_seen a) ∙ fault_seen b in cc

pub fault_no_picture : {file sheet : List ℕ} {lent n w h : ℕ} → PictureFault file lent n → lent ≡ h * w → ¬ PictureFile file w h sheet
fault_no_picture {file} {sheet} {lent} {n} {w} {h} f e p =
    let s : a_fault n ≡ a_picture w h sheet = sym (fault_seen f) ∙ picture_seen_lem lent p e in
    let z : ◌≡◌ {A = ℕ} 0 1 = cc in
    omega arith

-- No fault is success.
pub fault_some : {file : List ℕ} {lent n : ℕ} → PictureFault file lent n → ¬ (n ≡ 0)
fault_some (no_letters f e) z = omega arith
fault_some (no_header after l f e) z = omega arith
fault_some (no_sides w h m body b s e) z = omega arith
fault_some (other_largest w h m body b s l e) z = omega arith
fault_some (other_sheet d w h body b s l e) z = omega arith
fault_some (ends_early d w h body b s l m e) z = omega arith
fault_some (goes_on d w h body b s l m e) z = omega arith

-- Soundness of the working: what is seen tells the file.
module _ (file : List ℕ) (lent : ℕ) where
  headed_told : (after : List ℕ) → file ≡ picture_letters ++ after → (k : Heading) → HeadingTold 3 after k → PictureTold file lent (headed_seen lent k)
  unfolding headed_seen
  headed_told after l (heading vs body) t = begins_told lent begins
    where
      begins : Begins file (get_or vs 0 0) (get_or vs 1 0) (get_or vs 2 0) body
      begins = record { after = after; letters = l; header = subst (λ (us : List ℕ). Header us after body) (three_values vs t.0) t.1 }
  headed_told after l no_heading t = no_header after l (λ w h m body. t (w ∷ h ∷ m ∷ []) body refl) refl

  letters_told : (o : Option (List ℕ)) → TwoTold 80 53 file o → PictureTold file lent (letters_seen lent o)
  unfolding letters_seen
  letters_told none t = no_letters t refl
  letters_told (some l) t = headed_told l t (heading_of 3 l) (heading_told 3 l)

  pub picture_told : PictureTold file lent (picture_seen file lent)
  unfolding picture_seen
  picture_told = letters_told (after_two 80 53 file) (two_told 80 53 file)
