-- Every row of the program's table holds of the promise.
use Rattle.std.specs.Prelude.{◌≡◌, refl, List, [], ◌∷◌, ℕ, ◌<◌, ◌≤◌, length, get_or, replicate}
use Rattle.std.proofs.Common.{ap, subst, arith}
use Rattle.std.proofs.lemmas.List.{length-replicate, get_or-replicate}
use Rattle.field.specs.Map.{side, most_markers, Sides}
use Rattle.field.specs.Refusals.{bad_letters}
use Rattle.mapfile.specs.Raster.{Digits, ended, skip, zero_digit, one_digit}
use Rattle.mapfile.specs.Header.{feed}
use Rattle.mapfile.specs.File.{MapFile, markers_of, Format, plain, raw, Letters, FileFault, no_letters}
use Rattle.printing.specs.Settled.{refused_12, refused_12_is, refused_long}
use Rattle.mapfile.specs.Following.{most_bytes}
use Rattle.chart.specs.Promise.{Charted, too_long, fault, not_taken}
use Rattle.chart.specs.Table.{EveryRow, none, one, program_table, example_bits, example_raster, example_file, example_text, rock_file, rock_text}
use Rattle.chart.specs.TableLaws.{plain_map, Small, text_of, text_shown}

-- The next byte of a P1 raster: 0, 1, or LF.
o : {bits l : List ℕ} → Digits bits l → Digits (0 ∷ bits) (48 ∷ l)
o d = zero_digit d refl refl

i : {bits l : List ℕ} → Digits bits l → Digits (1 ∷ bits) (49 ∷ l)
i d = one_digit d refl refl

line : {bits l : List ℕ} → Digits bits l → Digits bits (10 ∷ l)
line d = skip 10 (feed refl) d refl

-- Sides of one digit are within the limit.
small_sides : (w h : ℕ) → 1 ≤ w → 1 ≤ h → w < 10 → h < 10 → Sides w h
unfolding side
small_sides w h p q k l = record { some_w = p; some_h = q; most_w = omega arith; most_h = omega arith }

example_map : MapFile example_file 4 3 example_bits
example_map =
    plain_map 4 3 example_raster (small_sides 4 3 (omega arith) (omega arith) (omega arith) (omega arith)) (omega arith) (omega arith)
    (o (o (i (o (line (o (i (o (o (line (o (o (o (o (line (ended refl refl)))))))))))))))) refl

example_few : Small 4 3 example_bits
unfolding text_of
example_few = record { width = omega arith; height = omega arith; rocks = omega arith; shut = omega arith; groups = omega arith }

example_is : text_of 4 3 example_bits ≡ example_text
unfolding text_of
example_is = refl

example_slots : length (markers_of 4 3 example_bits) ≤ most_markers
unfolding text_of most_markers
example_slots = omega arith

example_bytes : length example_file ≤ most_bytes
unfolding most_bytes
example_bytes = omega arith

example_shown : Charted example_file example_text
example_shown = subst (Charted example_file) example_is (text_shown example_map example_bytes example_slots example_few)

rock_map : MapFile rock_file 1 1 (1 ∷ [])
rock_map = plain_map 1 1 (49 ∷ []) (small_sides 1 1 (omega arith) (omega arith) (omega arith) (omega arith)) (omega arith) (omega arith) (i (ended refl refl)) refl

rock_few : Small 1 1 (1 ∷ [])
unfolding text_of
rock_few = record { width = omega arith; height = omega arith; rocks = omega arith; shut = omega arith; groups = omega arith }

rock_is : text_of 1 1 (1 ∷ []) ≡ rock_text
unfolding text_of
rock_is = refl

rock_slots : length (markers_of 1 1 (1 ∷ [])) ≤ most_markers
unfolding text_of most_markers
rock_slots = omega arith

rock_bytes : length rock_file ≤ most_bytes
unfolding most_bytes
rock_bytes = omega arith

rock_shown : Charted rock_file rock_text
rock_shown = subst (Charted rock_file) rock_is (text_shown rock_map rock_bytes rock_slots rock_few)

-- A file whose first byte is not P has no letters.
other_letters : (file : List ℕ) → ¬ (get_or file 0 0 ≡ 80) → FileFault file bad_letters
other_letters file n = no_letters (λ f rest e. n (first f rest e)) refl
  where
    first : (f : Format) (rest : List ℕ) → Letters f file rest → get_or file 0 0 ≡ 80
    first plain rest e = ap (λ (l : List ℕ). get_or l 0 0) e
    first raw rest e = ap (λ (l : List ℕ). get_or l 0 0) e

-- So it is refused 12, if it is not too long.
no_letters_told : (file : List ℕ) → length file ≤ most_bytes → ¬ (get_or file 0 0 ≡ 80) → Charted file refused_12
no_letters_told file l n = not_taken 12 refused_12_is.digits l (fault (other_letters file n)) refused_12_is.printed refused_12_is.is

most_some : 1 ≤ most_bytes
unfolding most_bytes
most_some = omega arith

no_bytes : Charted [] refused_12
no_bytes = no_letters_told [] (omega (arith, most_some)) (λ e. omega arith)

most_told : Charted (replicate 65536 48) refused_12
unfolding most_bytes
most_told =
    no_letters_told _ (omega (arith, length-replicate {A = ℕ} 65536 48)) (λ e. omega (arith, get_or-replicate {A = ℕ} 65536 0 48 0 (omega arith)))

long_told : Charted (replicate 65537 48) refused_long
unfolding most_bytes
long_told = too_long (omega (arith, length-replicate {A = ℕ} 65537 48)) refl

-- The program's table.
pub program_rows_hold : EveryRow program_table
program_rows_hold = one example_shown (one rock_shown (one no_bytes (one most_told (one long_told none))))
