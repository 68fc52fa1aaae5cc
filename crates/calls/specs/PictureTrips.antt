-- What is proved of the two picture calls: one outcome each, the exact occasions of their refusals,
-- that what is written reads back as the same sheet, of every sheet of sixteen-bit numbers, and
-- that an old picture reads as its sheet with the new mark.
use Rattle.std.specs.Prelude.{◌≡◌, List, ◌++◌, ◌↔◌, ℕ, ◌*◌, length, take, drop}
use Rattle.std.proofs.Common.{sym, ap, subst, ◌∙◌, arith, take_at}
use Rattle.std.proofs.Math.Decide.{ℕ_discrete}
use Rattle.field.specs.Map.{Sides}
use Rattle.field.specs.Distances.{Way, DistanceSheet}
use Rattle.picturefile.specs.Picture.{PictureFile, PictureFault}
use Rattle.picturefile.specs.Written.{PictureWritten, OldWritten, SheetRenewed}
use Rattle.picturefile.proofs.PictureLaws.{picture_one, picture_fault_one, fault_no_picture, fault_some}
use Rattle.picturefile.proofs.WrittenLaws
use Rattle.picturefile.proofs.WrittenLaws.{written_one, written_picture, old_picture_reads}
use Rattle.calls.specs.Rules.{gives_one}
use Rattle.calls.specs.RuleLaws.{Exactly, exactly, gives_none, sides_hold}
use Rattle.calls.specs.OutcomeLaws.{refused_one}
use Rattle.calls.specs.PictureCalls.{not_written, not_read, write_sheet_table, WriteSheetCall, ReadSheetCall}
use Rattle.calls.specs.declared.SheetWritten.{SheetWritten}
use Rattle.calls.specs.declared.SheetRead.{SheetRead}

-- Writing: one outcome, and each number exactly on its occasion.
module _ {sheet out : List ℕ} {w h : ℕ} where
  pub write_sheet_one : {a b : List ℕ} {r s : SheetWritten} → WriteSheetCall sheet w h out a r → WriteSheetCall sheet w h out b s → (r ≡ s) × (a ≡ b)
  write_sheet_one {a} {b} {r} {s} p q = go (ℕ_discrete r.refusal 0)
    where
      e : r.refusal ≡ s.refusal
      e = gives_one (write_sheet_table sheet w h out) _ _ p.given q.given

      same : r.bytes ≡ s.bytes → r ≡ s
      same n = λ i. record { refusal = e i; bytes = n i }

      go : Dec (r.refusal ≡ 0) → (r ≡ s) × (a ≡ b)
      go (yes z) =
          let u = p.done z in
          let v = q.done (sym e ∙ z) in
          let f : u.file ≡ v.file = written_one u.written v.written in
          (same (u.counted ∙ ap length f ∙ sym v.counted), u.is ∙ ap (λ (l : List ℕ). l ++ drop (length l) out) f ∙ sym v.is)
      go (no z) =
          let z' : ¬ (s.refusal ≡ 0) = λ k. z (e ∙ k) in
          (refused_one not_written e (p.refused z) (q.refused z'), p.kept z ∙ sym (q.kept z'))

  pub write_sheet_exactly : {out' : List ℕ} {r : SheetWritten} → WriteSheetCall sheet w h out out' r
      → Exactly (write_sheet_table sheet w h out) r.refusal
  write_sheet_exactly c = exactly (write_sheet_table sheet w h out) _ (omega arith) c.given

  -- A sheet that was written has the size of a map within the limits.
  write_sides : {out' : List ℕ} {r : SheetWritten} → WriteSheetCall sheet w h out out' r → r.refusal ≡ 0 → Sides w h
  write_sides c z = sides_hold (gives_none (write_sheet_table sheet w h out) 0 _ (omega arith) c.given z).0

  -- The bytes written are the first of the output.
  write_front : {out' : List ℕ} {r : SheetWritten} (c : WriteSheetCall sheet w h out out' r) (z : r.refusal ≡ 0) → take r.bytes out' ≡ (c.done z).file
  write_front {out'} {r} c z =
      let u = c.done z in
      ap (take r.bytes) u.is ∙ take_at u.file (drop (length u.file) out) r.bytes (sym u.counted)

-- Reading.
read_same : {r s : SheetRead} → r.refusal ≡ s.refusal → r.width ≡ s.width → r.height ≡ s.height → r ≡ s
read_same p q u = λ i. record { refusal = p i; width = q i; height = u i }

pub read_sheet_one : {file sheet a b : List ℕ} {r s : SheetRead} → ReadSheetCall file sheet a r → ReadSheetCall file sheet b s → (r ≡ s) × (a ≡ b)
read_sheet_one {file} {sheet} {a} {b} {r} {s} p q = go (ℕ_discrete r.refusal 0) (ℕ_discrete s.refusal 0)
  where
    go : Dec (r.refusal ≡ 0) → Dec (s.refusal ≡ 0) → (r ≡ s) × (a ≡ b)
    go (yes z) (yes z') =
        let e = picture_one (p.done z).picture (q.done z').picture in
        (read_same (z ∙ sym z') e.0 e.1, e.2)
    go (yes z) (no z') = absurd (fault_no_picture (q.given z') (p.done z).size (p.done z).picture)
    go (no z) (yes z') = absurd (fault_no_picture (p.given z) (q.done z').size (q.done z').picture)
    go (no z) (no z') = (refused_one not_read (picture_fault_one (p.given z) (q.given z')) (p.refused z) (q.refused z'), p.kept z ∙ sym (q.kept z'))

-- A fault's number is given exactly for a file with that fault, and 0 exactly for a picture of the
-- lent sheet's size.
pub record ReadSheetExactly (file : List ℕ) (lent n : ℕ) : Type 0 where
  pub fault : (k : ℕ) → PictureFault file lent k ↔ ((n ≡ k) × (¬ (k ≡ 0)))
  pub picture : ((w : ℕ) × (h : ℕ) × (sheet : List ℕ) × PictureFile file w h sheet × (lent ≡ h * w)) ↔ (n ≡ 0)

pub read_sheet_exactly : {file sheet sheet' : List ℕ} {r : SheetRead} → ReadSheetCall file sheet sheet' r
    → ReadSheetExactly file (length sheet) r.refusal
read_sheet_exactly {file} {sheet} {sheet'} {r} c = go (ℕ_discrete r.refusal 0)
  where
    go : Dec (r.refusal ≡ 0) → ReadSheetExactly file (length sheet) r.refusal
    go (yes z) =
        let u = c.done z in
        record {
          fault = λ k. (λ f. absurd (fault_no_picture f u.size u.picture), λ t. absurd (t.1 (sym t.0 ∙ z)));
          picture = (λ t. z, λ t. (r.width, r.height, sheet', u.picture, u.size));
        }
    go (no z) =
        let f = c.given z in
        record {
          fault = λ k. (λ g. (picture_fault_one f g, fault_some g), λ t. subst (PictureFault file (length sheet)) t.0 f);
          picture = (λ t. absurd (fault_no_picture f t.4 t.3), λ e. absurd (z e));
        }

-- "What is written reads back as the same sheet": into any lent sheet of its size, whatever that
-- holds.
pub record SameSheet (w h : ℕ) (sheet sheet' : List ℕ) (r : SheetRead) : Type 0 where
  pub taken : r.refusal ≡ 0
  pub width : r.width ≡ w
  pub height : r.height ≡ h
  pub same : sheet' ≡ sheet

-- A picture reads as its own sheet.
read_picture : {file sheet lent lent' : List ℕ} {w h : ℕ} {r : SheetRead} → PictureFile file w h sheet → ReadSheetCall file lent lent' r
    → length lent ≡ h * w → SameSheet w h sheet lent' r
read_picture {file} {sheet} {lent} {lent'} {w} {h} {r} picture d size = go (ℕ_discrete r.refusal 0)
  where
    go : Dec (r.refusal ≡ 0) → SameSheet w h sheet lent' r
    go (yes y) = let e = picture_one (d.done y).picture picture in record { taken = y; width = e.0; height = e.1; same = e.2 }
    go (no y) = absurd (fault_no_picture (d.given y) size picture)

pub read_write_sheet : {sheet out out' lent lent' : List ℕ} {w h : ℕ} {wrote : SheetWritten} {r : SheetRead} → WriteSheetCall sheet w h out out' wrote
    → wrote.refusal ≡ 0 → ReadSheetCall (take wrote.bytes out') lent lent' r → length lent ≡ h * w → SameSheet w h sheet lent' r
read_write_sheet {sheet} {out} {out'} {lent} {lent'} {w} {h} {wrote} {r} c z d size = read_picture picture d size
  where
    picture : PictureFile (take wrote.bytes out') w h sheet
    picture = subst (λ (l : List ℕ). PictureFile l w h sheet) (sym (write_front c z)) (written_picture (write_sides c z) (c.done z).written)

-- "Old one-byte sheets are still read, their 255 becoming 65,535."
pub read_old_sheet : {file old sheet lent lent' : List ℕ} {w h : ℕ} {r : SheetRead} → Sides w h → OldWritten w h old file → SheetRenewed old sheet
    → ReadSheetCall file lent lent' r → length lent ≡ h * w → SameSheet w h sheet lent' r
read_old_sheet sides p n d size = read_picture (old_picture_reads sides p n) d size

-- What is read and written again is our writer's form of the same picture: it reads as the same
-- sheet.
pub write_read_sheet : {file lent sheet out out' : List ℕ} {r : SheetRead} {wrote : SheetWritten} → ReadSheetCall file lent sheet r → r.refusal ≡ 0
    → WriteSheetCall sheet r.width r.height out out' wrote → wrote.refusal ≡ 0
    → PictureWritten r.width r.height sheet (take wrote.bytes out') × PictureFile (take wrote.bytes out') r.width r.height sheet
write_read_sheet {file} {lent} {sheet} {out} {out'} {r} {wrote} d y c z =
    let w : PictureWritten r.width r.height sheet (take wrote.bytes out') =
    subst (PictureWritten r.width r.height sheet) (sym (write_front c z)) (c.done z).written in
    (w, WrittenLaws.write_read (d.done y).picture w)

-- The distances of a map, written and read, are the distances still.
pub distances_still : {C : ℕ → ℕ → Type 0} {t : Way} {sheet out out' lent lent' : List ℕ} {w h : ℕ} {wrote : SheetWritten} {r : SheetRead}
    → DistanceSheet w h C t sheet → WriteSheetCall sheet w h out out' wrote → wrote.refusal ≡ 0
    → ReadSheetCall (take wrote.bytes out') lent lent' r → length lent ≡ h * w → DistanceSheet w h C t lent'
distances_still {C} {t} {w = w} {h = h} s c z d size =
    subst (DistanceSheet w h C t) (sym (read_write_sheet c z d size).same) s
