-- Every row of the table of maps that follow one another holds: of the small inputs the outcome is
-- computed, and of the long ones it is what their first bytes tell.
use Rattle.std.specs.Prelude.{◌≡◌, refl, Bool, true, false, ◌&&◌, List, [], ◌∷◌, ◌++◌, ℕ, zero, suc, ◌-◌, ◌≤◌, eqb, length, replicate}
use Rattle.std.proofs.Common.{sym, ap, subst, ◌∙◌, inl, arith, eqb-true}
use Rattle.std.proofs.lemmas.Bool.{false≢true}
use Rattle.std.proofs.Math.Option.{some}
use Rattle.std.proofs.Math.Decide.{dec_le, dec_lt, ℕ_discrete}
use Rattle.std.proofs.lemmas.List.{length-replicate}
use Rattle.field.specs.Map.{side, most_markers}
use Rattle.field.specs.Workings.Tests.{and_split}
use Rattle.field.specs.Workings.Sheet.{row, rows_from, sheet}
use Rattle.field.proofs.Workings.RowTests.{same, same_is}
use Rattle.mapfile.specs.Header.{space, feed, most_digits, Header}
use Rattle.mapfile.specs.HeaderWorking.{value, no_value, items_none, items_blank, number_none, blank_dec, line_end_dec, digit_dec, pick, end_items, after_items, after_comment, end_number, number_from, number_after, next_number, last_blank}
use Rattle.mapfile.specs.HeadingWorking.{heading, no_heading, lastly, onto, and_then, heading_of, HeadingTold}
use Rattle.mapfile.proofs.HeadingWorking.{heading_told, heading_more, heading_none, heading_found}
use Rattle.mapfile.specs.HeaderCut.{probe}
use Rattle.mapfile.specs.Raster.{row_bytes, packed_bit}
use Rattle.mapfile.specs.RasterWorking.{raw_bits}
use Rattle.mapfile.specs.File.{markers_from, markers_of}
use Rattle.mapfile.specs.FileWorking.{sides_dec, after_two}
use Rattle.mapfile.specs.Pieces.{Piece, ends, shows, leaves, letters_cut_dec}
use Rattle.mapfile.proofs.Pieces.{header_undecided, piece_some, header_piece, raster_piece}
use Rattle.mapfile.specs.Following.{most_bytes, no_header, Shows, FirstMap, Outcome, a_map, refused, too_long, FirstIs}
use Rattle.mapfile.proofs.FollowingOutcome.{map_stands, fault_stands, long_stands, first_some}
use Rattle.mapfile.specs.FollowingTable.{Row, EveryRow, none, one, one_bits, one_map, other_start, foreign_header, no_width, small_rows, long_rows, blanks, table}

-- Two outcomes are the same, as the checker computes.
same_outcome : Outcome → Outcome → Bool
same_outcome (a_map w h bits rest) (a_map w' h' bits' rest') = (eqb w w' && eqb h h') && (same bits bits' && same rest rest')
same_outcome (a_map w h bits rest) (refused n) = false
same_outcome (a_map w h bits rest) too_long = false
same_outcome (refused n) (a_map w h bits rest) = false
same_outcome (refused n) (refused m) = eqb n m
same_outcome (refused n) too_long = false
same_outcome too_long (a_map w h bits rest) = false
same_outcome too_long (refused n) = false
same_outcome too_long too_long = true

same_outcome_lem : (o p : Outcome) → same_outcome o p ≡ true → o ≡ p
unfolding same_outcome
same_outcome_lem (a_map w h bits rest) (a_map w' h' bits' rest') e =
    let f = and_split _ _ e in
    let g = and_split _ _ f.0 in
    let k = and_split _ _ f.1 in
    let p : w ≡ w' = eqb-true w w' g.0 in
    let q : h ≡ h' = eqb-true h h' g.1 in
    let r : bits ≡ bits' = same_is bits bits' k.0 in
    let s : rest ≡ rest' = same_is rest rest' k.1 in
    cc
same_outcome_lem (a_map w h bits rest) (refused n) e = absurd (false≢true e)
same_outcome_lem (a_map w h bits rest) too_long e = absurd (false≢true e)
same_outcome_lem (refused n) (a_map w h bits rest) e = absurd (false≢true e)
same_outcome_lem (refused n) (refused m) e = ap refused (eqb-true n m e)
same_outcome_lem (refused n) too_long e = absurd (false≢true e)
same_outcome_lem too_long (a_map w h bits rest) e = absurd (false≢true e)
same_outcome_lem too_long (refused n) e = absurd (false≢true e)
same_outcome_lem too_long too_long e = refl

passes : List ℕ → Outcome → Bool
passes l o = same_outcome (first_some l).0 o

passes_holds : (l : List ℕ) (o : Outcome) → passes l o ≡ true → FirstIs l o
unfolding passes
passes_holds l o e = let k = first_some l in subst (FirstIs l) (same_outcome_lem k.0 o e) k.1

all_pass : List Row → Bool
all_pass [] = true
all_pass (r ∷ rs) = passes r.bytes r.outcome && all_pass rs

all_hold : (rs : List Row) → all_pass rs ≡ true → EveryRow rs
unfolding all_pass
all_hold [] e = none
all_hold (r ∷ rs) e = let f = and_split _ _ e in one (passes_holds r.bytes r.outcome f.0) (all_hold rs f.1)

small_pass : all_pass small_rows ≡ true
unfolding all_pass passes same_outcome small_rows first_some same dec_le dec_lt ℕ_discrete side most_markers most_bytes row rows_from sheet most_digits blank_dec line_end_dec digit_dec pick end_items after_items after_comment end_number number_from number_after next_number last_blank lastly onto and_then heading_of row_bytes packed_bit raw_bits markers_from markers_of sides_dec after_two piece_some header_piece raster_piece letters_cut_dec
small_pass = refl

-- The fault that a piece shows, or 0.
shown_number : {l : List ℕ} → Piece l → ℕ
shown_number (ends w h bits rest m few) = 0
shown_number (shows n s) = n
shown_number (leaves n f u) = 0

number_shown : {l : List ℕ} (p : Piece l) (n : ℕ) → shown_number p ≡ suc n → Shows l (suc n)
unfolding shown_number
number_shown (ends w h bits rest m few) n e = absurd (omega arith)
number_shown {l} (shows k s) n e = subst (Shows l) e s
number_shown (leaves k f u) n e = absurd (omega arith)

-- The long rows whose first bytes show a fault, or end a map.
start_shown : Shows other_start 12
unfolding shown_number dec_le dec_lt ℕ_discrete side most_markers row rows_from sheet most_digits blank_dec line_end_dec digit_dec pick end_items after_items after_comment end_number number_from number_after next_number last_blank lastly onto and_then heading_of row_bytes packed_bit raw_bits markers_from markers_of sides_dec after_two piece_some header_piece raster_piece letters_cut_dec
start_shown = number_shown (piece_some other_start) 11 refl

header_shown : Shows foreign_header 13
unfolding shown_number dec_le dec_lt ℕ_discrete side most_markers row rows_from sheet most_digits blank_dec line_end_dec digit_dec pick end_items after_items after_comment end_number number_from number_after next_number last_blank lastly onto and_then heading_of row_bytes packed_bit raw_bits markers_from markers_of sides_dec after_two piece_some header_piece raster_piece letters_cut_dec
header_shown = number_shown (piece_some foreign_header) 12 refl

size_shown : Shows no_width 1
unfolding shown_number dec_le dec_lt ℕ_discrete side most_markers row rows_from sheet most_digits blank_dec line_end_dec digit_dec pick end_items after_items after_comment end_number number_from number_after next_number last_blank lastly onto and_then heading_of row_bytes packed_bit raw_bits markers_from markers_of sides_dec after_two piece_some header_piece raster_piece letters_cut_dec
size_shown = number_shown (piece_some no_width) 0 refl

map_told : FirstMap one_map 8 1 one_bits []
unfolding passes same_outcome same first_some most_bytes dec_le dec_lt ℕ_discrete side most_markers row rows_from sheet most_digits blank_dec line_end_dec digit_dec pick end_items after_items after_comment end_number number_from number_after next_number last_blank lastly onto and_then heading_of row_bytes packed_bit raw_bits markers_from markers_of sides_dec after_two piece_some header_piece raster_piece letters_cut_dec
map_told = passes_holds one_map (a_map 8 1 one_bits []) refl

-- Blanks after the letters: no header, and one with the probe.
blanks_value : (n : ℕ) (seen : Bool) → number_after (after_items (replicate n 32) seen) ≡ no_value
unfolding number_after end_items end_number
blanks_value zero true = ap number_after (items_none true) ∙ number_none 0 0
blanks_value zero false = ap number_after (items_none false)
blanks_value (suc n) seen = ap number_after (items_blank (replicate n 32) seen (space refl)) ∙ blanks_value n true

blanks_none : (n w h : ℕ) (body : List ℕ) → ¬ Header (w ∷ h ∷ []) (replicate n 32) body
unfolding next_number
blanks_none n w h body k =
    let e : no_heading ≡ heading (w ∷ h ∷ []) body = sym (heading_none 1 (replicate n 32) (blanks_value n false)) ∙ heading_found k in
    let z : ◌≡◌ {A = ℕ} 0 1 = cc in
    omega arith

blanks_items : (n : ℕ) (seen : Bool) → after_items (replicate n 32 ++ probe) seen ≡ after_items (10 ∷ 49 ∷ 10 ∷ 49 ∷ 10 ∷ []) true
blanks_items zero seen = items_blank (10 ∷ 49 ∷ 10 ∷ 49 ∷ 10 ∷ []) seen (feed refl)
blanks_items (suc n) seen = items_blank (replicate n 32 ++ probe) seen (space refl) ∙ blanks_items n true

items_rest : after_items (10 ∷ 49 ∷ 10 ∷ 49 ∷ 10 ∷ []) true ≡ some (49 ∷ 10 ∷ 49 ∷ 10 ∷ [])
unfolding dec_le dec_lt ℕ_discrete most_digits blank_dec line_end_dec digit_dec pick end_items after_items after_comment end_number number_from number_after next_number last_blank lastly onto and_then heading_of
items_rest = refl

probe_rest : heading_of 1 (10 ∷ 49 ∷ 10 ∷ []) ≡ heading (1 ∷ []) []
unfolding dec_le dec_lt ℕ_discrete most_digits blank_dec line_end_dec digit_dec pick end_items after_items after_comment end_number number_from number_after next_number last_blank lastly onto and_then heading_of
probe_rest = refl

blanks_next : (n : ℕ) → next_number (replicate n 32 ++ probe) ≡ value 1 (10 ∷ 49 ∷ 10 ∷ [])
unfolding dec_le dec_lt ℕ_discrete most_digits blank_dec line_end_dec digit_dec pick end_items after_items after_comment end_number number_from number_after next_number last_blank lastly onto and_then heading_of
blanks_next n = ap number_after (blanks_items n false ∙ items_rest)

blanks_header : (n : ℕ) → Header (1 ∷ 1 ∷ []) (replicate n 32 ++ probe) []
unfolding onto
blanks_header n = (subst (HeadingTold 2 (replicate n 32 ++ probe)) whole (heading_told 2 (replicate n 32 ++ probe))).1
  where
    whole : heading_of 2 (replicate n 32 ++ probe) ≡ heading (1 ∷ 1 ∷ []) []
    whole = heading_more 1 (replicate n 32 ++ probe) (10 ∷ 49 ∷ 10 ∷ []) 1 (blanks_next n) ∙ ap (onto 1) probe_rest

blanks_length : length blanks ≡ most_bytes
unfolding blanks most_bytes
blanks_length = omega (arith, length-replicate {A = ℕ} (most_bytes - 2) 32)

blanks_refused : FirstIs blanks (refused 13)
unfolding blanks
blanks_refused = inl (omega (arith, blanks_length), no_header (replicate (most_bytes - 2) 32) refl (blanks_none (most_bytes - 2)) refl)

blanks_long : FirstIs (blanks ++ 32 ∷ []) too_long
unfolding blanks
blanks_long =
    long_stands blanks (32 ∷ []) blanks_length (omega arith)
    (header_undecided {after = replicate (most_bytes - 2) 32} refl (blanks_none (most_bytes - 2)) 1 1 [] (blanks_header (most_bytes - 2)))

few : (l : List ℕ) → length l ≤ 8 → length l ≤ most_bytes
unfolding most_bytes
few l s = omega arith

long_hold : EveryRow long_rows
unfolding long_rows
long_hold =
    one blanks_refused
    (one blanks_long
    (one (fault_stands other_start (few other_start (omega arith)) blanks start_shown)
    (one (fault_stands foreign_header (few foreign_header (omega arith)) blanks header_shown)
    (one (fault_stands no_width (few no_width (omega arith)) blanks size_shown)
    (one (map_stands one_map (few one_map (omega arith)) blanks map_told.map map_told.few) none)))))

rows_append : {a b : List Row} → EveryRow a → EveryRow b → EveryRow (a ++ b)
rows_append none k = k
rows_append (one h r) k = one h (rows_append r k)

-- The table of maps that follow one another.
pub every_input_holds : EveryRow table
unfolding table
every_input_holds = rows_append (all_hold small_rows small_pass) long_hold
