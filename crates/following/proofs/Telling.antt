-- What is told of the bytes at hand, part by part: a fault is given where the input ends with them,
-- or where it shows; a map where it ends within them.
use mathlib.Core.Path.{◌≡◌, refl, sym, ap, subst, ◌∙◌}
use mathlib.Core.Bool.{Bool, true, false}
use mathlib.Core.List.{List, [], ◌∷◌, ◌++◌, append_assoc, append-nil}
use mathlib.Core.Logic.{◌↔◌, inl}
use Prim.Native.Nat.{ℕ, ◌+◌, ◌*◌, ◌-◌, ◌<◌, ◌≤◌}
use native.Mathlib.Omega.{arith}
use lib.ListN.{length, take, drop, length-append, length-drop, take-append-drop}
use lib.Seq.{length-take-le, drop-append-le, drop-drop}
use Rattle.field.specs.Map.{Sides, most_markers}
use Rattle.field.specs.Refusals.{no_slot, bad_header, short_raster, bad_size}
use Rattle.mapfile.specs.Header.{Header}
use Rattle.mapfile.specs.HeaderCut.{probe}
use Rattle.mapfile.specs.Raster.{row_bytes, RawFault, raw_short, raw_long}
use Rattle.mapfile.specs.File.{raw, Letters}
use Rattle.mapfile.specs.Following.{most_bytes, refused, too_long, MapFirst, FirstFault, no_header, cut_short, Shows, FirstRefused, FirstLong}
use Rattle.mapfile.proofs.FollowingOutcome.{map_stands, fault_stands, long_stands}
use Rattle.mapfile.specs.Pieces.{LettersCut}
use Rattle.mapfile.proofs.Pieces.{shows_now, letters_undecided, header_shown, header_undecided, sides_shown, many_shown, raster_undecided}
use Rattle.header.specs.HeaderParts.{HeadRead}
use Rattle.header.specs.Found.{head_found, head_missing}
use Rattle.raster.specs.RasterParts.{RasterIn}
use Rattle.following.specs.Promise.{Follows, Stands, MapRead, FirstRead}
use Rattle.following.specs.Parts.{MapEnds, Faulty, Waits, PieceRead, Joined, HasHeader, Lettered, Headless, MayReadRaster}
use Rattle.std.proofs.Common.{Option as Maybe, Some, None, is_some, Ok}
use Rattle.following.specs.declared.Piece.{Piece}

-- A fault where the input ends, and one that shows.
fault_ended : {src : List ℕ} {ended : Bool} {n : ℕ} → ended ≡ true → FirstFault src n → Faulty src ended n
fault_ended e f = record { fault = f; shows = λ g. cc }

fault_shown : {src : List ℕ} {ended : Bool} {n : ℕ} → Shows src n → Faulty src ended n
fault_shown {src} s = record { fault = shows_now src s; shows = λ g. s }

-- The letters.
pub letters_wait : {src : List ℕ} {ended : Bool} → ended ≡ false → LettersCut src → Waits src ended
letters_wait e c = record { going = e; undecided = letters_undecided c }

-- The header.
pub header_none : {l : List ℕ} → ((w h : ℕ) (body : List ℕ) → ¬ Header (w ∷ h ∷ []) l body) → ¬ HasHeader l
header_none n k = n k.w k.h k.body k.header

none_header : {l : List ℕ} → ¬ HasHeader l → (w h : ℕ) (body : List ℕ) → ¬ Header (w ∷ h ∷ []) l body
none_header n w h body k = n (record { w = w; h = h; body = body; header = k })

pub letters_long : {src after : List ℕ} → Letters raw src after → 2 ≤ length src
letters_long {src} {after} e = omega (arith, ap length e)

-- The bytes with the probe after them, read.
module _ {src : List ℕ} (m : Lettered src) (tried : List ℕ) (j : Joined src tried) where
  abbrev whole_tried : List ℕ
  whole_tried = take (length src + length probe) tried

  probed : drop 2 whole_tried ≡ drop 2 src ++ probe
  probed = ap (drop 2) j ∙ drop-append-le 2 src probe (letters_long m.letters)

  pub probe_told : (numbers : List ℕ) → length numbers ≡ 2 → (r : Maybe ℕ) → HeadRead whole_tried 2 numbers r
      → (is_some r ≡ true) ↔ HasHeader (drop 2 src ++ probe)
  probe_told numbers n (Some e) k =
      (λ z. subst HasHeader probed (record { w = _; h = _; body = _; header = (head_found n k).1 }), λ z. refl)
  probe_told numbers n None k =
      (λ z. cc, λ z. absurd (subst (λ (l : List ℕ). ¬ HasHeader l) probed (header_none (head_missing whole_tried 2 numbers n k)) z))

-- Without a header.
module _ {src : List ℕ} (m : Headless src) where
  pub header_end : {ended : Bool} → ended ≡ true → Faulty src ended bad_header
  header_end e = fault_ended e (no_header (drop 2 src) m.lettered.letters (none_header m.none) refl)

  pub header_wait : {ended : Bool} → ended ≡ false → HasHeader (drop 2 src ++ probe) → Waits src ended
  header_wait e k = record { going = e; undecided = header_undecided m.lettered.letters (none_header m.none) k.w k.h k.body k.header }

  pub header_bad : {ended : Bool} → ¬ HasHeader (drop 2 src ++ probe) → Faulty src ended bad_header
  header_bad n = fault_shown (header_shown m.lettered.letters (none_header n))

-- The sides.
pub sides_bad : {src after body : List ℕ} {w h : ℕ} {ended : Bool} → Letters raw src after → Header (w ∷ h ∷ []) after body → ¬ Sides w h
    → Faulty src ended bad_size
sides_bad {src} {after} l k s = fault_shown (sides_shown (record { after = after; letters = l; header = k }) s)

-- The raster, of r bytes a row.
module _ {src : List ℕ} {at w h r : ℕ} {out : List ℕ} (sides : Sides w h) (m : MayReadRaster src at w h out) (row : r ≡ row_bytes w) where
  size : h * r ≡ h * row_bytes w
  size = ap (λ (k : ℕ). h * k) row

  raster_short : length src - at < h * r → length (drop at src) < h * row_bytes w
  raster_short l = omega (arith, length-drop at src, size)

  pub raster_end : {ended : Bool} → ended ≡ true → length src - at < h * r → Faulty src ended short_raster
  raster_end e l = fault_ended e (cut_short w h (drop at src) m.begins sides (raster_short l) refl)

  pub raster_wait : {ended : Bool} → ended ≡ false → length src - at < h * r → Waits src ended
  raster_wait e l = record { going = e; undecided = raster_undecided m.begins sides (raster_short l) }

  -- It is whole: the bytes read are its own.
  module _ (l : h * r ≤ length src - at) where
    abbrev own : List ℕ
    own = take (at + h * r - at) (drop at src)

    count : at + h * r - at ≡ h * r
    count = omega arith

    own_length : length own ≡ h * row_bytes w
    own_length = length-take-le (at + h * r - at) (drop at src) (omega (arith, length-drop at src)) ∙ count ∙ size

    own_rest : drop at src ≡ own ++ drop (at + h * r) src
    own_rest =
        sym (take-append-drop (at + h * r - at) (drop at src))
        ∙ ap (λ (k : List ℕ). own ++ k) (ap (λ (k : ℕ). drop k (drop at src)) count ∙ drop-drop (h * r) at src)

    -- It has no fault, since its length is right.
    pub sound : {n : ℕ} → ¬ RawFault w h own n
    sound (raw_short p e) = omega (arith, own_length)
    sound (raw_long p e) = omega (arith, own_length)

    module _ {bits : List ℕ} {rocks : ℕ} (good : RasterIn raw w h own bits rocks) where
      map : MapFirst src w h (take (h * w) bits) (drop (at + h * r) src)
      map = record { body = drop at src; own = own; begins = m.begins; sides = sides; raster = good.raster; ends = own_rest }

      pub raster_many : {ended : Bool} → most_markers < rocks → Faulty src ended no_slot
      raster_many p = fault_shown (many_shown map (omega (arith, good.counted)))

      pub raster_ends : rocks ≤ most_markers → MapEnds src w h (at + h * r) bits
      raster_ends p = record { within = omega (arith, m.within); map = map; few = omega (arith, good.counted) }

-- What a piece tells stands for every input that begins with it.
refused_stands : (src : List ℕ) → length src ≤ most_bytes → (ended : Bool) (n : ℕ) → Faulty src ended n → (t : List ℕ) → Follows ended t
    → FirstRefused (src ++ t) n
refused_stands src s true n f t e =
    subst (λ (l : List ℕ). FirstRefused l n) (sym (ap (λ (k : List ℕ). src ++ k) (e refl) ∙ append-nil src)) (inl (s, f.fault))
refused_stands src s false n f t e = fault_stands src s t (f.shows refl)

module _ (src : List ℕ) (s : length src ≤ most_bytes) (ended : Bool) where
  pub piece_stands : (out : List ℕ) (o : Maybe Piece) → PieceRead src ended out (Ok o) → FirstRead src ended out (Ok o)
  piece_stands out (Some q) p = record { within = p.within; stands = λ t f. map_stands src s t p.map p.few }
  piece_stands out None p = record { going = p.going; short = s; undecided = p.undecided }

  pub fault_stays : {n : ℕ} → Faulty src ended n → Stands src ended (λ t. refused n)
  fault_stays {n} p = λ t f. refused_stands src s ended n p t f

-- Of more bytes than a map may have, the first tell.
module _ (src : List ℕ) (more : most_bytes < length src) where
  abbrev front : List ℕ
  front = take most_bytes src

  abbrev back : List ℕ
  back = drop most_bytes src

  front_length : length front ≡ most_bytes
  front_length = length-take-le most_bytes src (omega arith)

  whole : (t : List ℕ) → front ++ (back ++ t) ≡ src ++ t
  whole t = sym (append_assoc front back t) ∙ ap (λ (l : List ℕ). l ++ t) (take-append-drop most_bytes src)

  rest : (used : ℕ) (t : List ℕ) → used ≤ length front → drop used front ++ (back ++ t) ≡ drop used src ++ t
  rest used t s =
      sym (append_assoc (drop used front) back t)
      ∙ ap (λ (l : List ℕ). l ++ t) (sym (drop-append-le used front back s) ∙ ap (drop used) (take-append-drop most_bytes src))

  pub past_map : {ended : Bool} {w h used : ℕ} {out : List ℕ} → MapEnds front w h used out → MapRead src ended w h used out
  past_map p =
      record {
        within = omega (arith, p.within, front_length);
        stands = λ t f. rw (← whole t, ← rest _ t p.within) (map_stands front (omega (arith, front_length)) (back ++ t) p.map p.few);
      }

  pub past_fault : {ended : Bool} {n : ℕ} → Faulty front false n → Stands src ended (λ t. refused n)
  past_fault {ended} {n} p =
      λ t f. subst (λ (l : List ℕ). FirstRefused l n) (whole t) (fault_stands front (omega (arith, front_length)) (back ++ t) (p.shows refl))

  pub past_long : {ended : Bool} → Waits front false → Stands src ended (λ t. too_long)
  past_long p =
      λ t f. subst FirstLong (whole t) (long_stands front (back ++ t) front_length (omega (arith, length-append back t, length-drop most_bytes src)) p.undecided)
