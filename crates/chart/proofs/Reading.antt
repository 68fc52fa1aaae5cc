-- What reading a map file leaves in the bits is what turning asks for, and the text of those bits
-- is the text of the file.
use mathlib.Core.Path.{◌≡◌}
use mathlib.Core.List.{List}
use mathlib.Core.Logic.{◌⊎◌, inl, inr}
use Prim.Native.Nat.{ℕ, ◌+◌, ◌*◌, ◌<◌, ◌≤◌}
use native.Mathlib.Omega.{arith}
use native.Mathlib.Nat.{mul-le-mul_left, mul-le-mul_right}
use lib.ListN.{length, get_or, take, length-take}
use lib.Seq.{get_or-take}
use Rattle.field.specs.Map.{side, Sides}
use Rattle.field.specs.Refusals.{no_slot}
use Rattle.field.specs.Limits.{marker_slots, most_markers_is}
use Rattle.mapfile.specs.File.{MapFile, FileFault, NoSlot}
use Rattle.mapfile.proofs.RockLaws.{raster_bits, raster_crossings}
use Rattle.reader.specs.Promise.{MapTaken}
use Rattle.mapfile.specs.Following.{most_bytes}
use Rattle.chart.specs.Promise.{line_room, Refusal, fault, too_many, Charted, not_taken, shown}
use Rattle.chart.specs.Parts.{BitsShown}
use Rattle.printing.specs.Printed.{RefusalLine}
use Rattle.printing.specs.Parts.{Puts}
use Rattle.turning.specs.Turning.{MayTurn}

-- The bits of a map file, one for each crossing.
map_crossings : {file bits : List ℕ} {w h : ℕ} → MapFile file w h bits → length bits ≡ h * w
map_crossings {file} {bits} {w} {h} m = raster_crossings m.format w h m.body bits m.raster

-- With as many slots as markers may be in use, a refusal is the file's.
pub refusal_is : {file : List ℕ} {n : ℕ} → FileFault file n ⊎ (NoSlot file marker_slots × (n ≡ no_slot)) → Refusal file n
refusal_is (inl f) = fault f
refusal_is (inr s) = too_many (rw most_markers_is s.0) s.1

-- A refusal's line is the text of the file that is refused.
pub refusal_text : {file out after : List ℕ} {n end : ℕ} → length file ≤ most_bytes → Refusal file n → Puts (RefusalLine n) out 0 after end
    → Puts (Charted file) out 0 after end
refusal_text {n} l f p =
    record { piece = p.piece; right = not_taken n p.right.digits l f p.right.printed p.right.is; put = p.put }

module _ {file bits : List ℕ} {lent w h count : ℕ} (t : MapTaken file lent w h count bits) where
  -- The bits read can be stamped on a sheet of the map's size.
  pub taken_turn : (sheet : List ℕ) → length sheet ≡ h * w → MayTurn w h bits sheet
  taken_turn sheet size =
      record {
        whole = omega (arith, length-take (h * w) bits, map_crossings t.map);
        size = size;
      }

  -- They are 0 and 1.
  pub taken_ones : (i : ℕ) → i < h * w → get_or bits i 0 ≤ 1
  taken_ones i l = omega (arith, get_or-take (h * w) bits i 0 l, raster_bits t.map.format w h t.map.body (take (h * w) bits) t.map.raster i)

  -- Their text is the text of the file.
  pub map_text : {out after : List ℕ} {end : ℕ} → length file ≤ most_bytes → Puts (BitsShown w h bits) out 0 after end → Puts (Charted file) out 0 after end
  map_text l q =
      let s = q.right in
      record {
        piece = q.piece;
        right = shown w h s.rocks s.shut s.groups (take (h * w) bits) s.line s.picture l t.map (omega (arith, t.counted, t.few)) s.rocks_are s.shut_are s.groups_are
            s.line_is s.picture_is s.is;
        put = q.put;
      }

-- The longest text is that of the largest map.
pub text_few : {w h n : ℕ} → Sides w h → line_room + side * (side + 1) ≤ n → line_room + h * (w + 1) ≤ n
text_few {w} {h} s l =
    omega (arith, mul-le-mul_right {m = h} {n = side} (w + 1) s.most_h, mul-le-mul_left {m = w + 1} {n = side + 1} side (omega (arith, s.most_w)))
