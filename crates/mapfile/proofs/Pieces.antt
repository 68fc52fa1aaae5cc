-- Every piece of a map's bytes ends it, or shows a fault, or leaves it undecided. A fault that the
-- bytes have by themselves does not show if some bytes that follow take it away. So of all bytes
-- that are left one outcome holds, and one alone.
use Rattle.std.specs.Prelude.{◌≡◌, refl, List, [], ◌∷◌, ◌++◌, ℕ, ◌*◌, ◌<◌, ◌≤◌, length, get_or, take, drop, replicate}
use Rattle.std.proofs.Common.{sym, ap, subst, ◌∙◌, append_assoc, append-nil, arith, length-append, take-append-drop, length-take-le}
use Rattle.std.proofs.Math.Option.{Option, none, some}
use Rattle.std.proofs.Math.Decide.{dec_le, dec_lt}
use Rattle.std.proofs.lemmas.List.{length-replicate}
use Rattle.field.specs.Map.{Sides, most_markers}
use Rattle.field.specs.Refusals.{bad_size, no_slot, bad_letters, bad_header, short_raster}
use Rattle.mapfile.specs.Header.{Header}
use Rattle.mapfile.specs.HeaderCut.{probe}
use Rattle.mapfile.proofs.HeaderCut.{cut_told}
use Rattle.mapfile.specs.HeadingWorking.{Heading, heading, no_heading, heading_of, HeadingTold}
use Rattle.mapfile.proofs.HeadingWorking.{heading_told}
use Rattle.mapfile.specs.Raster.{row_bytes}
use Rattle.mapfile.specs.RasterWorking.{raw_bits}
use Rattle.mapfile.specs.RasterLaws.{raw_raster}
use Rattle.mapfile.specs.File.{raw, Letters, Begins, markers_of}
use Rattle.mapfile.proofs.FileLaws.{begins_one, letters_one}
use Rattle.mapfile.specs.FileWorking.{sides_dec, after_two, TwoTold}
use Rattle.mapfile.proofs.FileWorking.{two_told, two_values}
use Rattle.mapfile.specs.Following.{MapFirst, FirstFault, no_letters, no_header, no_sides, cut_short, too_many, Shows, Undecided}
use Rattle.mapfile.proofs.FollowingLaws.{letters_more, begins_more, map_more, first_fault_one, map_no_fault}
use Rattle.mapfile.specs.Pieces.{LettersCut, nothing, the_first, Piece, ends, shows, leaves, letters_cut_dec}

-- A fault that shows is there, and shows in more bytes.
pub shows_now : {n : ℕ} (l : List ℕ) → Shows l n → FirstFault l n
shows_now {n} l s = subst (λ (m : List ℕ). FirstFault m n) (append-nil l) (s [])

pub shows_more : {n : ℕ} (l u : List ℕ) → Shows l n → Shows (l ++ u) n
shows_more {n} l u s t = subst (λ (m : List ℕ). FirstFault m n) (sym (append_assoc l u t)) (s (u ++ t))

-- A fault that some bytes take away does not show, nor does another; and no map ends here.
pub undecided : {l : List ℕ} {n : ℕ} → FirstFault l n → (t : List ℕ) → ¬ FirstFault (l ++ t) n → Undecided l
undecided {l} {n} f t gone =
    record {
      unended = λ w h bits rest m. go w h bits rest m (dec_le (length (markers_of w h bits)) most_markers);
      faultless = λ k s. gone (subst (FirstFault (l ++ t)) (first_fault_one (shows_now l s) f) (s t));
    }
  where
    go : (w h : ℕ) (bits rest : List ℕ) → MapFirst l w h bits rest → ¬ Dec (length (markers_of w h bits) ≤ most_markers)
    go w h bits rest m (yes p) = map_no_fault m p f
    go w h bits rest m (no p) =
        let many : most_markers < length (markers_of w h bits) = omega arith in
        gone (subst (FirstFault (l ++ t)) (first_fault_one (too_many w h bits rest m many refl) f) (too_many w h bits (rest ++ t) (map_more m t) many refl))

-- Where the letters are there, the header, the whole raster, the fault is a later one.
letters_there : {l after : List ℕ} → Letters raw l after → ¬ FirstFault l bad_letters
letters_there {l} {after} k (no_letters absent e) = absent after k
letters_there k (no_header after' k' absent e) = omega arith
letters_there k (no_sides w h body b s e) = omega arith
letters_there k (cut_short w h body b s p e) = omega arith
letters_there k (too_many w h bits rest m p e) = omega arith

header_there : {l body : List ℕ} {w h : ℕ} → Begins l raw w h body → ¬ FirstFault l bad_header
header_there b (no_letters absent e) = omega arith
header_there {l} {body} {w} {h} b (no_header after k absent e) =
    absent w h body (subst (λ (m : List ℕ). Header (w ∷ h ∷ []) m body) (letters_one raw raw b.letters k).1 b.header)
header_there b (no_sides w' h' body' b' s e) = omega arith
header_there b (cut_short w' h' body' b' s p e) = omega arith
header_there b (too_many w' h' bits rest m p e) = omega arith

raster_there : {l body : List ℕ} {w h : ℕ} → Begins l raw w h body → h * row_bytes w ≤ length body → ¬ FirstFault l short_raster
raster_there b q (no_letters absent e) = omega arith
raster_there b q (no_header after k absent e) = omega arith
raster_there b q (no_sides w' h' body' b' s e) = omega arith
raster_there {l} {body} {w} {h} b q (cut_short w' h' body' b' s p e) =
    let o = begins_one b' b in
    let r : length body < h * row_bytes w = rw (← o.1, ← o.2, ← o.3) p in
    omega arith
raster_there b q (too_many w' h' bits rest m p e) = omega arith

pub cut_absent : {l : List ℕ} → LettersCut l → (after : List ℕ) → ¬ Letters raw l after
cut_absent (nothing p) after e = let z : [] ≡ 80 ∷ 52 ∷ after = sym p ∙ e in let y : ◌≡◌ {A = ℕ} 0 1 = cc in omega arith
cut_absent (the_first p) after e =
    let z : 80 ∷ [] ≡ 80 ∷ 52 ∷ after = sym p ∙ e in let x : [] ≡ 52 ∷ after = cc in let y : ◌≡◌ {A = ℕ} 0 1 = cc in omega arith

-- No letters now, but with the bytes that are wanting.
letters_back : (l t : List ℕ) → l ++ t ≡ 80 ∷ 52 ∷ [] → ¬ FirstFault (l ++ t) bad_letters
letters_back l t e = letters_there {after = []} e

pub letters_undecided : {l : List ℕ} → LettersCut l → Undecided l
letters_undecided {l} c = go c
  where
    go : LettersCut l → Undecided l
    go (nothing p) = undecided (no_letters (cut_absent c) refl) (80 ∷ 52 ∷ []) (letters_back l _ (ap (λ (m : List ℕ). m ++ 80 ∷ 52 ∷ []) p))
    go (the_first p) = undecided (no_letters (cut_absent c) refl) (52 ∷ []) (letters_back l _ (ap (λ (m : List ℕ). m ++ 52 ∷ []) p))

pub letters_shown : (l : List ℕ) → ((after : List ℕ) → ¬ Letters raw l after) → ¬ LettersCut l → Shows l bad_letters
letters_shown [] absent uncut t = absurd (uncut (nothing refl))
letters_shown (a ∷ []) absent uncut t =
    no_letters (λ after e. uncut (let p : a ≡ 80 = cc in the_first (cc))) refl
letters_shown (a ∷ b ∷ l) absent uncut t =
    no_letters (λ after e. absent l (let p : a ≡ 80 = cc in let q : b ≡ 52 = cc in cc)) refl

-- No header: none may follow, or the probe makes one.
module _ {l after : List ℕ} (k : Letters raw l after) where
  pub header_shown : ((w h : ℕ) (body : List ℕ) → ¬ Header (w ∷ h ∷ []) (after ++ probe) body) → Shows l bad_header
  header_shown absent t = no_header (after ++ t) (letters_more k t) (cut_told after absent t) refl

  pub header_undecided : ((w h : ℕ) (body : List ℕ) → ¬ Header (w ∷ h ∷ []) after body) → (w h : ℕ) (body : List ℕ) → Header (w ∷ h ∷ []) (after ++ probe) body
      → Undecided l
  header_undecided absent w h body there = undecided (no_header after k absent refl) probe (header_there (record { after = after ++ probe; letters = letters_more k probe; header = there }))

-- Sides out of bounds show, and so do too many markers.
pub sides_shown : {l body : List ℕ} {w h : ℕ} → Begins l raw w h body → ¬ Sides w h → Shows l bad_size
sides_shown {l} {body} {w} {h} b s t = no_sides w h (body ++ t) (begins_more b t) s refl

pub many_shown : {l bits rest : List ℕ} {w h : ℕ} → MapFirst l w h bits rest → most_markers < length (markers_of w h bits) → Shows l no_slot
many_shown {l} {bits} {rest} {w} {h} m p t = too_many w h bits (rest ++ t) (map_more m t) p refl

-- A raster cut short is whole with as many bytes as it has.
pub raster_undecided : {l body : List ℕ} {w h : ℕ} → Begins l raw w h body → Sides w h → length body < h * row_bytes w → Undecided l
raster_undecided {l} {body} {w} {h} b s p = undecided (cut_short w h body b s p refl) (replicate size 0) (raster_there (begins_more b (replicate size 0)) whole)
  where
    size : ℕ
    size = h * row_bytes w

    whole : size ≤ length (body ++ replicate size 0)
    whole = simp (length-append, length-replicate) (omega arith)

-- Bytes with a header and sides within bounds, by the length of what follows.
unfoldable pub raster_piece : {l body : List ℕ} {w h : ℕ} → Begins l raw w h body → Sides w h → Piece l
raster_piece {l} {body} {w} {h} b s = go (dec_lt (length body) (h * row_bytes w))
  where
    own : List ℕ
    own = take (h * row_bytes w) body

    bits : List ℕ
    bits = raw_bits w h own

    map : h * row_bytes w ≤ length body → MapFirst l w h bits (drop (h * row_bytes w) body)
    map p =
        record {
          body = body;
          own = own;
          begins = b;
          sides = s;
          raster = raw_raster w h own (length-take-le (h * row_bytes w) body p);
          ends = sym (take-append-drop (h * row_bytes w) body);
        }

    counted : MapFirst l w h bits (drop (h * row_bytes w) body) → Dec (length (markers_of w h bits) ≤ most_markers) → Piece l
    counted m (yes p) = ends w h bits (drop (h * row_bytes w) body) m p
    counted m (no p) = shows no_slot (many_shown m (omega arith))

    go : Dec (length body < h * row_bytes w) → Piece l
    go (yes p) = leaves short_raster (cut_short w h body b s p refl) (raster_undecided b s p)
    go (no p) = counted (map (omega arith)) (dec_le (length (markers_of w h bits)) most_markers)

unfoldable pub header_piece : {l after : List ℕ} → Letters raw l after → Piece l
header_piece {l} {after} k = go (heading_of 2 after) (heading_told 2 after)
  where
    sized : {w h : ℕ} {body : List ℕ} → Begins l raw w h body → Dec (Sides w h) → Piece l
    sized b (yes s) = raster_piece b s
    sized b (no s) = shows bad_size (sides_shown b s)

    missing : ((w h : ℕ) (body : List ℕ) → ¬ Header (w ∷ h ∷ []) after body) → (o : Heading) → HeadingTold 2 (after ++ probe) o → Piece l
    missing absent (heading vs rest) t =
        leaves bad_header (no_header after k absent refl)
        (header_undecided k absent _ _ rest (subst (λ (us : List ℕ). Header us (after ++ probe) rest) (two_values vs t.0) t.1))
    missing absent no_heading t = shows bad_header (header_shown k (λ w h body. t (w ∷ h ∷ []) body refl))

    go : (o : Heading) → HeadingTold 2 after o → Piece l
    go (heading vs rest) t =
        sized (record { after = after; letters = k; header = subst (λ (us : List ℕ). Header us after rest) (two_values vs t.0) t.1 })
        (sides_dec (get_or vs 0 0) (get_or vs 1 0))
    go no_heading t = missing (λ w h body. t (w ∷ h ∷ []) body refl) (heading_of 2 (after ++ probe)) (heading_told 2 (after ++ probe))

-- Every piece tells one of the three.
unfoldable pub piece_some : (l : List ℕ) → Piece l
piece_some l = go (after_two 80 52 l) (two_told 80 52 l)
  where
    cut : ((after : List ℕ) → ¬ Letters raw l after) → Dec (LettersCut l) → Piece l
    cut absent (yes c) = leaves bad_letters (no_letters absent refl) (letters_undecided c)
    cut absent (no c) = shows bad_letters (letters_shown l absent c)

    go : (o : Option (List ℕ)) → TwoTold 80 52 l o → Piece l
    go (some after) t = header_piece t
    go none t = cut t (letters_cut_dec l)
