-- What bytes begin with is one: one map at most or one fault, and a map that stands first stands
-- first whatever follows. The number of the fault is worked out from the bytes, 0 for a map, so
-- that each fault is shown to have that number once.
use Rattle.std.specs.Prelude.{◌≡◌, refl, List, [], ◌∷◌, ◌++◌, ℕ, ◌*◌, ◌≤◌, length, get_or, take, drop}
use Rattle.std.proofs.Common.{sym, ap, subst, ◌∙◌, append_assoc, arith, length-append, take_at, drop_at}
use Rattle.std.proofs.Math.Option.{Option, none, some}
use Rattle.std.proofs.Math.Decide.{dec_lt}
use Rattle.field.specs.Map.{most_markers}
use Rattle.field.specs.Refusals.{success, bad_size, no_slot, bad_letters, bad_header, short_raster}
use Rattle.mapfile.specs.Header.{Header}
use Rattle.mapfile.specs.HeaderWorking.{pick, pick_yes, pick_no}
use Rattle.mapfile.specs.HeadingWorking.{Heading, heading, no_heading, heading_of, HeadingTold}
use Rattle.mapfile.proofs.HeadingWorking.{heading_told, heading_found}
use Rattle.mapfile.specs.Raster.{row_bytes}
use Rattle.mapfile.specs.RasterWorking.{raw_bits}
use Rattle.mapfile.specs.RasterLaws.{raw_raster, raw_raster_one}
use Rattle.mapfile.specs.File.{raw, Letters, Begins, markers_of}
use Rattle.mapfile.proofs.FileLaws.{begins_one}
use Rattle.mapfile.specs.FileWorking.{sides_dec, after_two, TwoTold}
use Rattle.mapfile.proofs.FileWorking.{two_told, two_found, two_values}
use Rattle.mapfile.specs.Following.{MapFirst, FirstFault, no_letters, no_header, no_sides, cut_short, too_many}

-- The beginning is the same whatever follows.
pub letters_more : {l after : List ℕ} → Letters raw l after → (t : List ℕ) → Letters raw (l ++ t) (after ++ t)
letters_more e t = ap (λ (m : List ℕ). m ++ t) e

pub begins_more : {l body : List ℕ} {w h : ℕ} → Begins l raw w h body → (t : List ℕ) → Begins (l ++ t) raw w h (body ++ t)
begins_more {l} {body} b t =
    record {
      after = b.after ++ t;
      letters = letters_more b.letters t;
      header = record { bytes = b.header.bytes; numbers = b.header.numbers; is = ap (λ (m : List ℕ). m ++ t) b.header.is ∙ append_assoc b.header.bytes body t };
    }

pub map_more : {l bits rest : List ℕ} {w h : ℕ} → MapFirst l w h bits rest → (t : List ℕ) → MapFirst (l ++ t) w h bits (rest ++ t)
map_more {l} {bits} {rest} m t =
    record {
      body = m.body ++ t;
      own = m.own;
      begins = begins_more m.begins t;
      sides = m.sides;
      raster = m.raster;
      ends = ap (λ (k : List ℕ). k ++ t) m.ends ∙ append_assoc m.own rest t;
    }

-- A map's own raster and the rest, by the bytes after the header.
pub map_own : {l bits rest : List ℕ} {w h : ℕ} (m : MapFirst l w h bits rest) → m.own ≡ take (h * row_bytes w) m.body
map_own {l} {bits} {rest} {w} {h} m = sym (ap (take (h * row_bytes w)) m.ends ∙ take_at m.own rest (h * row_bytes w) m.raster.size)

pub map_rest : {l bits rest : List ℕ} {w h : ℕ} (m : MapFirst l w h bits rest) → rest ≡ drop (h * row_bytes w) m.body
map_rest {l} {bits} {rest} {w} {h} m = sym (ap (drop (h * row_bytes w)) m.ends ∙ drop_at m.own rest (h * row_bytes w) m.raster.size)

pub map_bits : {l bits rest : List ℕ} {w h : ℕ} (m : MapFirst l w h bits rest) → bits ≡ raw_bits w h (take (h * row_bytes w) m.body)
map_bits {l} {bits} {rest} {w} {h} m =
    raw_raster_one m.raster (raw_raster w h m.own m.raster.size) ∙ ap (raw_bits w h) (map_own m)

-- One map at most.
pub map_first_one : {l bits rest bits' rest' : List ℕ} {w h w' h' : ℕ} → MapFirst l w h bits rest → MapFirst l w' h' bits' rest'
    → (w ≡ w') × (h ≡ h') × (bits ≡ bits') × (rest ≡ rest')
map_first_one m k =
    let e = begins_one m.begins k.begins in (
      e.1,
      e.2,
      map_bits m ∙ rw (e.1, e.2, e.3) (sym (map_bits k)),
      map_rest m ∙ rw (e.1, e.2, e.3) (sym (map_rest k)),
    )

-- The number of the fault, part by part, 0 for a map.
unfoldable pub sized_number : ℕ → ℕ → List ℕ → ℕ
sized_number w h body =
    pick (sides_dec w h)
    (pick (dec_lt (length body) (h * row_bytes w)) short_raster
    (pick (dec_lt most_markers (length (markers_of w h (raw_bits w h (take (h * row_bytes w) body))))) no_slot success))
    bad_size

unfoldable pub headed_number : Heading → ℕ
headed_number no_heading = bad_header
headed_number (heading vs body) = sized_number (get_or vs 0 0) (get_or vs 1 0) body

unfoldable pub lettered_number : Option (List ℕ) → ℕ
lettered_number none = bad_letters
lettered_number (some after) = headed_number (heading_of 2 after)

unfoldable pub first_number : List ℕ → ℕ
first_number l = lettered_number (after_two 80 52 l)

letters_none : (l : List ℕ) → ((after : List ℕ) → ¬ Letters raw l after) → first_number l ≡ bad_letters
unfolding first_number lettered_number
letters_none l absent = go (after_two 80 52 l) (two_told 80 52 l)
  where
    go : (o : Option (List ℕ)) → TwoTold 80 52 l o → lettered_number o ≡ bad_letters
    go none t = refl
    go (some after) t = absurd (absent after t)

letters_there : {l after : List ℕ} → Letters raw l after → first_number l ≡ headed_number (heading_of 2 after)
unfolding first_number lettered_number
letters_there {l} {after} e = ap lettered_number (two_found 80 52 l after e)

header_none : (after : List ℕ) → ((w h : ℕ) (body : List ℕ) → ¬ Header (w ∷ h ∷ []) after body) → headed_number (heading_of 2 after) ≡ bad_header
unfolding headed_number
header_none after absent = go (heading_of 2 after) (heading_told 2 after)
  where
    go : (o : Heading) → HeadingTold 2 after o → headed_number o ≡ bad_header
    go (heading vs rest) t = absurd (absent _ _ rest (subst (λ (us : List ℕ). Header us after rest) (two_values vs t.0) t.1))
    go no_heading t = refl

begins_there : {l body : List ℕ} {w h : ℕ} → Begins l raw w h body → first_number l ≡ sized_number w h body
unfolding headed_number
begins_there b = letters_there b.letters ∙ ap headed_number (heading_found b.header)

-- A map that stands first, by how many rocks it has.
map_there : {l bits rest : List ℕ} {w h : ℕ} → MapFirst l w h bits rest
    → first_number l ≡ pick (dec_lt most_markers (length (markers_of w h bits))) no_slot success
unfolding sized_number
map_there {l} {bits} {rest} {w} {h} m =
    begins_there m.begins ∙ pick_yes (sides_dec w h) _ _ m.sides
    ∙ pick_no (dec_lt (length m.body) (h * row_bytes w)) _ _ (λ s. omega (arith, m.raster.size, ap length m.ends, length-append m.own rest))
    ∙ ap (λ (b : List ℕ). pick (dec_lt most_markers (length (markers_of w h b))) no_slot success) (sym (map_bits m))

pub fault_number : {l : List ℕ} {n : ℕ} → FirstFault l n → first_number l ≡ n
unfolding sized_number
fault_number {l} (no_letters absent e) = letters_none l absent ∙ sym e
fault_number (no_header after k absent e) = letters_there k ∙ header_none after absent ∙ sym e
fault_number (no_sides w h body b s e) = begins_there b ∙ pick_no (sides_dec w h) _ _ s ∙ sym e
fault_number (cut_short w h body b s p e) =
    begins_there b ∙ pick_yes (sides_dec w h) _ _ s ∙ pick_yes (dec_lt (length body) (h * row_bytes w)) _ _ p ∙ sym e
fault_number (too_many w h bits rest m p e) = map_there m ∙ pick_yes (dec_lt most_markers (length (markers_of w h bits))) _ _ p ∙ sym e

-- One fault at most, and none where a map stands first whose markers are not too many.
pub first_fault_one : {l : List ℕ} {n m : ℕ} → FirstFault l n → FirstFault l m → n ≡ m
first_fault_one a b = sym (fault_number a) ∙ fault_number b

fault_some : {l : List ℕ} {n : ℕ} → FirstFault l n → 1 ≤ n
fault_some (no_letters absent e) = omega arith
fault_some (no_header after k absent e) = omega arith
fault_some (no_sides w h body b s e) = omega arith
fault_some (cut_short w h body b s p e) = omega arith
fault_some (too_many w h bits rest m p e) = omega arith

pub map_no_fault : {l bits rest : List ℕ} {w h n : ℕ} → MapFirst l w h bits rest → length (markers_of w h bits) ≤ most_markers → ¬ FirstFault l n
map_no_fault {l} {bits} {rest} {w} {h} m few f =
    omega (arith, fault_some f, fault_number f, map_there m, pick_no (dec_lt most_markers (length (markers_of w h bits))) no_slot success (λ p. omega arith))
