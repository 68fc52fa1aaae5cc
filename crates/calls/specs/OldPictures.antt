-- An old picture of distances is read as the distances: where no distance of the map is 255, the
-- byte 255 was the mark alone, and it becomes the new one.
use Rattle.std.specs.Prelude.{◌≡◌, List, ℕ, ◌*◌, ◌≤◌, length}
use Rattle.std.proofs.Common.{sym, subst, ◌∙◌, arith}
use Rattle.std.proofs.Math.Decide.{ℕ_discrete}
use Rattle.field.specs.Map.{Sides, On, OnMap, number, at, no_distance, old_mark}
use Rattle.field.specs.Limits.{old_mark_is}
use Rattle.field.specs.Distances.{Way, Clear, at_closed, nearest, none, DistanceSheet}
use Rattle.field.proofs.Workings.GridLaws.{along_short}
use Rattle.field.specs.Workings.Sheet.{number_lt}
use Rattle.picturefile.specs.Depths.{Renewed, marked, itself}
use Rattle.picturefile.specs.Written.{OldWritten, SheetRenewed}
use Rattle.picturefile.proofs.WrittenLaws.{sheet_renewed}
use Rattle.calls.specs.PictureCalls.{ReadSheetCall}
use Rattle.calls.specs.PictureTrips.{read_old_sheet}
use Rattle.calls.specs.declared.SheetRead.{SheetRead}

-- A distance as a byte of an old sheet: the hops, "or 255 if there is none".
pub record OldDistance (C : ℕ → ℕ → Type 0) (t : Way) (x y byte : ℕ) : Type 0 where
  pub n : ℕ
  pub clear : Clear C t x y n
  pub none : n ≡ no_distance → byte ≡ old_mark
  pub some : ¬ (n ≡ no_distance) → byte ≡ n

-- A sheet of distances as it was given before Req 07, one byte a crossing.
pub record OldDistanceSheet (w h : ℕ) (C : ℕ → ℕ → Type 0) (t : Way) (old : List ℕ) : Type 0 where
  pub size : length old ≡ h * w
  pub distance : (x y : ℕ) → On w h x y → OldDistance C t x y (at old w x y)

-- On a map whose sides are no longer than the old mark, no distance reaches it.
module _ {w h : ℕ} {C : ℕ → ℕ → Type 0} {t : Way} (on : OnMap w h C) (p : w ≤ old_mark) (q : h ≤ old_mark) where
  distance_short : {x y n : ℕ} → On w h x y → Clear C t x y n → ¬ (n ≡ no_distance) → ¬ (n ≡ old_mark)
  distance_short o (at_closed c e) f m = omega (arith, old_mark_is)
  distance_short {x} {y} {n} o (nearest a b c l k g) f m = omega (arith, along_short t old_mark w h n x y a b p q o (on a b k) l)
  distance_short o (none c g e) f m = f e

  -- So what is read for its byte is the distance.
  distance_renewed : {x y byte m : ℕ} → On w h x y → OldDistance C t x y byte → Renewed byte m → Clear C t x y m
  distance_renewed {x} {y} {byte} {m} o d r = go (ℕ_discrete d.n no_distance) r
    where
      go : Dec (d.n ≡ no_distance) → Renewed byte m → Clear C t x y m
      go (yes e) (marked b n) = subst (Clear C t x y) (e ∙ sym n) d.clear
      go (yes e) (itself b n) = absurd (b (d.none e))
      go (no e) (marked b n) = absurd (distance_short o d.clear e (sym (d.some e) ∙ b))
      go (no e) (itself b n) = subst (Clear C t x y) (sym (d.some e) ∙ sym n) d.clear

  sheet_distances : {old sheet : List ℕ} → OldDistanceSheet w h C t old → SheetRenewed old sheet → DistanceSheet w h C t sheet
  sheet_distances {old} {sheet} d r =
      record {
        size = r.size ∙ d.size;
        distance = λ x y o. distance_renewed o (d.distance x y o) (r.is (number w x y) (omega (arith, number_lt w h x y o, d.size)));
      }

  -- "Old one-byte sheets are still read, their 255 becoming 65,535": the old picture of a map's
  -- distances reads as the distances of the map.
  pub old_distances_still : {old file lent lent' : List ℕ} {r : SheetRead} → Sides w h → OldDistanceSheet w h C t old → OldWritten w h old file
      → ReadSheetCall file lent lent' r → length lent ≡ h * w → (r.refusal ≡ 0) × DistanceSheet w h C t lent'
  old_distances_still {old} {file} {lent} {lent'} {r} s d f c size =
      let e = read_old_sheet s f (sheet_renewed old) c size in
      (e.taken, subst (DistanceSheet w h C t) (sym e.same) (sheet_distances d (sheet_renewed old)))
