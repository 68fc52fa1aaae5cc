-- A sheet stamped and labelled gives the text of the map, and the text depends on which crossings
-- are rocks and not on how that is said.
use mathlib.Core.Path.{◌≡◌, refl}
use mathlib.Core.List.{List, ◌++◌}
use Prim.Native.Nat.{ℕ, ◌*◌}
use lib.ListN.{take}
use Rattle.field.specs.Labels.{RockOn, Label, is_open, is_rock, is_shut}
use Rattle.field.specs.Workings.Sheet.{Draws}
use Rattle.field.proofs.Workings.SameLaws.{Alike, open_same, closed_same, shut_same, count_alike, groups_same}
use Rattle.field.specs.declared.Labelled.{Labelled}
use Rattle.labels.specs.Promise.{Stones, Labels}
use Rattle.chart.specs.Promise.{Picture}
use Rattle.printing.specs.Parts.{Put, Puts}
use Rattle.chart.specs.Parts.{FirstLine, Shown, BitsShown}
use Rattle.chart.specs.Drawing.{picture_of}
use Rattle.chart.specs.DrawingLaws.{picture_drawn}
use Rattle.turning.specs.Stamping.{stones_alike}
use Rattle.mapfile.specs.File.{FileRock}
use Rattle.printing.proofs.Putting.{put_front, front_put, filled_more}

-- Rocks that agree on the map.
module _ (w h : ℕ) {R S : ℕ → ℕ → Type 0} (a : Alike (RockOn R w h) (RockOn S w h)) where
  label_alike : {x y b : ℕ} → Label R w h x y b → Label S w h x y b
  label_alike (is_open e o) = is_open e (open_same w h (closed_same w h a) o)
  label_alike {x} {y} (is_rock e r) = is_rock e ((a x y).0 r)
  label_alike {x} {y} (is_shut e t) = is_shut e ((shut_same w h a x y).0 t)

  picture_alike : {l : List ℕ} → Picture R w h l → Picture S w h l
  picture_alike p = record { size = p.size; sign = λ r x u v. let s = p.sign r x u v in (s.0, label_alike s.1, s.2); end = p.end }

  shown_alike : {text : List ℕ} → Shown R w h text → Shown S w h text
  shown_alike t =
      record {
        rocks = t.rocks;
        shut = t.shut;
        groups = t.groups;
        line = t.line;
        picture = t.picture;
        rocks_are = count_alike w h a t.rocks_are;
        shut_are = count_alike w h (shut_same w h a) t.shut_are;
        groups_are = groups_same w h (closed_same w h a) t.groups_are;
        line_is = t.line_is;
        picture_is = picture_alike t.picture_is;
        is = t.is;
      }

module _ {w h : ℕ} {s t : List ℕ} {r : Labelled} (l : Labels w h s t r) where
  -- The text of the stamped rocks.
  stones_shown : {line : List ℕ} → FirstLine w h r line → Shown (Stones w h s) w h (line ++ picture_of t w h)
  stones_shown {line} f =
      record {
        rocks = r.rocks;
        shut = r.shut;
        groups = r.groups;
        line = line;
        picture = picture_of t w h;
        rocks_are = l.rocks;
        shut_are = l.shut;
        groups_are = l.groups;
        line_is = f.line;
        picture_is = picture_drawn t w h (Stones w h s) l.sheet;
        is = refl;
      }

  -- First line and picture in the output are the text of the map.
  pub map_put : (bits : List ℕ) {out mid rows after : List ℕ} {start end : ℕ} → Draws w h (RockOn (FileRock w h (take (h * w) bits)) w h) s → Puts (FirstLine w h r) out 0 mid start
      → rows ≡ picture_of t w h → Put mid start rows after end → Puts (BitsShown w h bits) out 0 after end
  map_put bits {out} {mid} {rows} {after} {start} {end} drawn p e q =
      record {
        piece = p.piece ++ picture_of t w h;
        right = shown_alike w h (stones_alike drawn) (stones_shown p.right);
        put = front_put (filled_more p.piece (picture_of t w h) start end out mid after (put_front p.put) (rw e at q));
      }
