-- Every row of the table of refusals holds: what the rows' maps are is computed by the tests of the
-- examples, of the small lists and of the small files, and then each row's rules are gone through.
use Rattle.std.specs.Prelude.{◌≡◌, refl, List, [], ◌∷◌, ◌++◌, ◌↔◌, ◌⊎◌, ℕ, zero, suc, ◌<◌, ◌≤◌, ◌+◌, ◌*◌, length}
use Rattle.std.proofs.Common.{ap, inl, inr, zero-le, arith}
use Rattle.std.proofs.lemmas.List.{length-replicate}
use Rattle.field.specs.declared.Marker.{Marker}
use Rattle.field.specs.Map.{Sides, On, most_markers, tallest, gap}
use Rattle.field.specs.Limits.{side_number, side_is, tallest_some}
use Rattle.field.specs.Labels.{blank, rock, Open}
use Rattle.field.specs.Distances.{Assured}
use Rattle.field.specs.Drives.{ShortestDrive}
use Rattle.field.specs.Table as Examples
use Rattle.field.specs.Table.{R, place, wide, high, markers_on}
use Rattle.field.proofs.Workings.Corners.{every}
use Rattle.field.specs.Workings.Sheet.{row, rows_from, sheet}
use Rattle.field.specs.Workings.Stamping.{rock_of, stands}
use Rattle.field.proofs.Workings.RowTests.{same}
use Rattle.field.proofs.Workings.TableLaws.{all_pass, all_hold}
use Rattle.markers.specs.List.{slot, InUse}
use Rattle.markers.specs.Table as Lists
use Rattle.markers.proofs.Rows as ListRows
use Rattle.mapfile.specs.Header.{value_from, most_digits}
use Rattle.mapfile.specs.Raster.{row_bytes, packed_bit}
use Rattle.mapfile.specs.Written.{Written}
use Rattle.mapfile.specs.Table as Files
use Rattle.mapfile.proofs.Rows as FileRows
use Rattle.calls.specs.Rules
use Rattle.calls.specs.Rules.{Rule, Gives, gives_one, lent_map, AnEndClosed, NoWay, Shared, TooShort, Misfit, Formed, RocksOf, ClosedBy}
use Rattle.calls.specs.RefusalTable.{
  Row,
  enter,
  clear,
  label,
  distances,
  hop,
  region,
  drive,
  write,
  Holds,
  full,
  roomy,
  over,
  one_rock,
  two_on_one,
  low_on_one,
  both_low,
  low_off,
  zeros,
  table,
}

-- Every row of a list holds.
pub data EveryRow : List Row → Type 0 where
  none : EveryRow []
  one : {r : Row} {rs : List Row} → Holds r → EveryRow rs → EveryRow (r ∷ rs)

-- The rules that a row's call can meet, and the number that it names.
abbrev rules_of : Row → List Rule
rules_of (enter m id x y n) = Rules.enter_table m id x y
rules_of (clear m id n) = Rules.clear_table m id
rules_of (label m labels n) = Rules.label_table m labels
rules_of (distances m x y labels n) = Rules.distances_table m x y labels
rules_of (hop m hx hy x y labels n) = Rules.hop_table m hx hy x y labels
rules_of (region m sx sy dx dy labels t n) = Rules.region_table m sx sy dx dy labels t
rules_of (drive m sx sy dx dy labels t route n) = Rules.drive_table m sx sy dx dy labels t route
rules_of (write m out n) = Rules.write_table m out

abbrev number_of : Row → ℕ
number_of (enter m id x y n) = n
number_of (clear m id n) = n
number_of (label m labels n) = n
number_of (distances m x y labels n) = n
number_of (hop m hx hy x y labels n) = n
number_of (region m sx sy dx dy labels t n) = n
number_of (drive m sx sy dx dy labels t route n) = n
number_of (write m out n) = n

-- Where the rules give the number, the promise allows no other.
given : (r : Row) → Gives (rules_of r) (number_of r) → Holds r
given (enter m id x y n) g = (g, λ height list' r p. gives_one (Rules.enter_table m id x y) _ _ p.given g)
given (clear m id n) g = (g, λ list' r p. gives_one (Rules.clear_table m id) _ _ p.given g)
given (label m labels n) g = (g, λ labels' r p. gives_one (Rules.label_table m labels) _ _ p.given g)
given (distances m x y labels n) g = (g, λ labels' r p. gives_one (Rules.distances_table m x y labels) _ _ p.given g)
given (hop m hx hy x y labels n) g = (g, λ labels' r p. gives_one (Rules.hop_table m hx hy x y labels) _ _ p.given g)
given (region m sx sy dx dy labels t n) g = (g, λ labels' region' r p. gives_one (Rules.region_table m sx sy dx dy labels t) _ _ p.given g)
given (drive m sx sy dx dy labels t route n) g = (g, λ state labels' region' route' state' r p. gives_one (Rules.drive_table m sx sy dx dy labels t route) _ _ p.given g)
given (write m out n) g = (g, λ out' r p. gives_one (Rules.write_table m out) _ _ p.given g)

-- The sizes. 8 by 8 is within the limits, and so is the largest side by 1; 0 and one more than the
-- largest side are not.
sides : {w h : ℕ} → 1 ≤ w → 1 ≤ h → w ≤ side_number → h ≤ side_number → Sides w h
sides a b c d = record { some_w = a; some_h = b; most_w = omega (arith, side_is); most_h = omega (arith, side_is) }

good_size : ¬ ¬ Sides wide high
good_size n = n (sides (omega arith) (omega arith) (omega arith) (omega arith))

wider : {h : ℕ} → ¬ Sides (side_number + 1) h
wider s = omega (arith, s.most_w, side_is)

-- A sheet of 64 bytes is of the map's size.
fits : length (zeros 64) ≡ high * wide
fits = length-replicate {A = ℕ} 64 0

one_fits : ¬ Misfit wide high (zeros 64 ∷ [])
one_fits (inl n) = n fits
one_fits (inr z) = z

two_fit : ¬ Misfit wide high (zeros 64 ∷ zeros 64 ∷ [])
two_fit (inl n) = n fits
two_fit (inr f) = one_fits f

long_fits : ¬ Misfit side_number 1 (zeros side_number ∷ [])
long_fits (inl n) = n (length-replicate {A = ℕ} side_number 0)
long_fits (inr z) = z

-- The lists: these are well formed, and with one more in use than lent none is.
full_formed : Formed full
unfolding most_markers every ListRows.good_at ListRows.rises_at ListRows.formed_of ListRows.passes
full_formed = ListRows.passes_holds (Lists.formed (markers_on R) 3) refl

good_list : ¬ ¬ Formed full
good_list n = n full_formed

roomy_formed : Formed roomy
unfolding most_markers every ListRows.good_at ListRows.rises_at ListRows.formed_of ListRows.passes
roomy_formed = ListRows.passes_holds (Lists.formed (markers_on R ++ blank ∷ []) 3) refl

one_formed : Formed one_rock
unfolding most_markers every ListRows.good_at ListRows.rises_at ListRows.formed_of ListRows.passes
one_formed = ListRows.passes_holds (Lists.formed (markers_on (place 7 0 ∷ [])) 1) refl

two_formed : Formed two_on_one
unfolding most_markers every ListRows.good_at ListRows.rises_at ListRows.formed_of ListRows.passes
two_formed = ListRows.passes_holds (Lists.formed (markers_on (place 7 0 ∷ place 7 0 ∷ [])) 2) refl

low_formed : Formed low_on_one
unfolding most_markers every ListRows.good_at ListRows.rises_at ListRows.formed_of ListRows.passes
low_formed = ListRows.passes_holds (Lists.formed low_on_one.list 2) refl

both_formed : Formed both_low
unfolding most_markers every ListRows.good_at ListRows.rises_at ListRows.formed_of ListRows.passes
both_formed = ListRows.passes_holds (Lists.formed both_low.list 2) refl

low_off_bad : ¬ Formed low_off
low_off_bad f = omega (arith, (f.on 0 (omega arith)).in_x)

empty_formed : Formed (lent_map [] 0 side_number 1 0)
empty_formed =
    record { few = zero-le; lent = omega arith; some_id = λ k l. absurd (omega arith); on = λ k l. absurd (omega arith); rising = λ k l. absurd (omega arith) }

over_bad : ¬ Formed over
over_bad f = omega (arith, f.lent)

-- What the examples' tests tell of R. A crossing is open where it is assured for itself.
first : {r : Examples.Row} {rs : List Examples.Row} → Examples.EveryRow (r ∷ rs) → Examples.Holds r
first (Examples.one p ps) = p

start_open : Open wide high (ClosedBy full) 0 2
unfolding all_pass
start_open = (first (all_hold (Examples.assured R 0 2 0 2 ∷ []) refl)).home

far_open : Open wide high (ClosedBy full) 4 5
unfolding all_pass
far_open = (first (all_hold (Examples.assured R 4 5 4 5 ∷ []) refl)).home

far_not_assured : ¬ Assured wide high (ClosedBy full) 0 2 4 5
unfolding all_pass
far_not_assured = first (all_hold (Examples.not_assured R 0 2 4 5 ∷ []) refl)

near_assured : Assured wide high (ClosedBy full) 0 2 3 5
unfolding all_pass
near_assured = first (all_hold (Examples.assured R 0 2 3 5 ∷ []) refl)

no_way : Examples.Holds (Examples.refused_9 R 0 2 7 2)
unfolding all_pass
no_way = first (all_hold (Examples.refused_9 R 0 2 7 2 ∷ []) refl)

way : Examples.Holds (Examples.drive R 0 2 7 4 9)
unfolding all_pass
way = first (all_hold (Examples.drive R 0 2 7 4 9 ∷ []) refl)

still : Examples.Holds (Examples.drive R 0 2 0 2 0)
unfolding all_pass
still = first (all_hold (Examples.drive R 0 2 0 2 0 ∷ []) refl)

end_open : Open wide high (ClosedBy full) 7 4
unfolding all_pass
end_open = (first (all_hold (Examples.assured R 7 4 7 4 ∷ []) refl)).home

-- (4,3) is a rock's crossing.
rock_closed : ClosedBy full 4 3
rock_closed = rock {x = 4} {y = 3} (record { in_x = omega arith; in_y = omega arith }) (record { slot = 1; in_use = omega arith; x_is = refl; y_is = refl; stops = tallest_some })

-- Ends that are open.
open-ends : {x y a b : ℕ} → Open wide high (ClosedBy full) x y → Open wide high (ClosedBy full) a b → ¬ AnEndClosed (ClosedBy full) x y a b
open-ends p q (inl c) = p.free c
open-ends p q (inr c) = q.free c

-- A shortest drive is had.
has_way : {sx sy dx dy : ℕ} (n : ℕ) → (route : List ℕ) × ShortestDrive wide high (ClosedBy full) sx sy dx dy route × (length route ≡ n + 1) → ¬ NoWay wide high (ClosedBy full) sx sy dx dy
has_way n p f = f.none (record { route = p.0; shortest = p.1 })

-- Both places are on the map.
on_map : {x y a b : ℕ} → (x < wide) × (y < high) × (a < wide) × (b < high) → ¬ ((¬ On wide high x y) ⊎ (¬ On wide high a b))
on_map p (inl n) = n (record { in_x = p.0; in_y = p.1 })
on_map p (inr n) = n (record { in_x = p.2; in_y = p.3 })

-- Ids. 9 is not in use, and 2 is.
unused_in : (list : List Marker) → (slot list 0).id ≡ 1 → (slot list 1).id ≡ 2 → (slot list 2).id ≡ 3 → ¬ InUse list 3 9
unused_in list a b c u = by_place u.place u.below u.is
  where
    by_place : (k : ℕ) → k < 3 → (slot list k).id ≡ 9 → ⊥
    by_place zero l e = omega arith
    by_place (suc zero) l e = omega arith
    by_place (suc (suc zero)) l e = omega arith
    by_place (suc (suc (suc k))) l e = omega arith

unused : ¬ InUse full.list full.count 9
unused = unused_in full.list refl refl refl

used : InUse full.list full.count 2
used = record { place = 1; below = omega arith; is = refl }

new : {id x y : ℕ} → ¬ (id ≡ 0) → x < wide → y < high → ¬ ((¬ On wide high x y) ⊎ (id ≡ 0))
new n p q (inl f) = f (record { in_x = p; in_y = q })
new n p q (inr e) = n e

slot_left : ¬ ((length roomy.list < roomy.count + 1) ⊎ (most_markers < roomy.count + 1))
unfolding most_markers
slot_left (inl l) = omega arith
slot_left (inr l) = omega arith

-- The file of the one rock: its 15 bytes, and no others.
file : List ℕ
file = 80 ∷ 52 ∷ 10 ∷ 56 ∷ 32 ∷ 56 ∷ 10 ∷ 0 ∷ 0 ∷ 0 ∷ 0 ∷ 0 ∷ 0 ∷ 0 ∷ 1 ∷ []

file_written : (l : List ℕ) → Written wide high (RocksOf one_rock) l ↔ l ≡ file
unfolding file tallest row rows_from sheet rock_of stands every same value_from most_digits row_bytes packed_bit FileRows.digit_of FileRows.plain_of FileRows.crossing_of FileRows.pad_of FileRows.byte_of FileRows.packed_of FileRows.digits_in FileRows.width_in FileRows.height_in FileRows.rows_in FileRows.written_of FileRows.passes
file_written = FileRows.passes_holds (Files.is_written wide high (place 7 0 ∷ []) file) refl

file_length : length file ≡ 15
unfolding file
file_length = refl

not_shared : ¬ Shared one_rock.list 1
not_shared s = s.two (omega (arith, s.j_below, s.k_below))

shared : Shared two_on_one.list 2
shared = record { j = 0; k = 1; j_below = omega arith; k_below = omega arith; two = λ e. omega arith; x = refl; y = refl }

low_shared : Shared low_on_one.list 2
low_shared = record { j = 0; k = 1; j_below = omega arith; k_below = omega arith; two = λ e. omega arith; x = refl; y = refl }

both_shared : Shared both_low.list 2
both_shared = record { j = 0; k = 1; j_below = omega arith; k_below = omega arith; two = λ e. omega arith; x = refl; y = refl }

too_short : TooShort wide high (RocksOf one_rock) (zeros 14)
too_short = record { file = file; written = (file_written file).1 refl; short = omega (arith, file_length, length-replicate {A = ℕ} 14 0) }

just_fits : ¬ TooShort wide high (RocksOf one_rock) (zeros 15)
just_fits t = omega (arith, t.short, ap length ((file_written t.file).0 t.written), file_length, length-replicate {A = ℕ} 15 0)

infixr 1 ◌$◌
◌$◌ : {A B : Type 0} → (A → B) → A → B
f $ a = f a

-- One row more, whose rules give its number.
also : {r : Row} {rs : List Row} → Gives (rules_of r) (number_of r) → EveryRow rs → EveryRow (r ∷ rs)
also {r} g rest = one (given r g) rest

-- The refusals by their occasions, in the order of the table.
pub refusal_rows_hold : EveryRow table
unfolding table gap
refusal_rows_hold =
    also (inl (λ s. omega (arith, s.some_w), refl)) $
    also (inl (λ s. omega (arith, s.some_h), refl)) $
    also (inl (wider, refl)) $
    also (inr (λ s. s (sides (omega arith) (omega arith) (omega arith) (omega arith)), inr (long_fits, inr (λ l. l empty_formed, refl)))) $
    also (inr (good_size, inl (inl (λ e. omega (arith, length-replicate {A = ℕ} 63 0)), refl))) $
    also (inr (good_size, inr (one_fits, inl (over_bad, refl)))) $
    also (inr (good_size, inl (inr (inl (λ e. omega (arith, length-replicate {A = ℕ} 65 0))), refl))) $
    also (inr (good_size, inr (one_fits, inl (over_bad, refl)))) $
    also (inr (good_size, inl (over_bad, refl))) $
    also (inr (good_size, inl (over_bad, refl))) $
    also (inr (good_size, inr (good_list, inl (inl (λ o. omega (arith, o.in_x)), refl)))) $
    also (inr (good_size, inr (good_list, inl (inr refl, refl)))) $
    also (inr (good_size, inr (good_list, inr (new (λ e. omega arith) (omega arith) (omega arith), inl (used, refl))))) $
    also (inr (good_size, inr (good_list, inr (new (λ e. omega arith) (omega arith) (omega arith), inr (unused, inl (inl (omega arith), refl)))))) $
    also (inr (good_size, inr (λ l. l roomy_formed, inr (new (λ e. omega arith) (omega arith) (omega arith), inr (unused_in roomy.list refl refl refl, inr (slot_left, refl)))))) $
    also (inr (good_size, inr (good_list, inl (unused, refl)))) $
    also (inr (good_size, inr (good_list, inr (λ n. n used, refl)))) $
    also (inr (good_size, inr (two_fit, inr (good_list, inl (inr (λ o. omega (arith, o.in_x)), refl))))) $
    also (inr (good_size, inr (one_fits, inr (good_list, inr (on_map (omega arith, omega arith, omega arith, omega arith), inl (inl rock_closed, refl)))))) $
    also (inr (good_size, inr (one_fits, inr (good_list, inr (on_map (omega arith, omega arith, omega arith, omega arith), inr (open-ends start_open far_open, inl (far_not_assured, refl))))))) $
    also (inr (good_size, inr (one_fits, inr (good_list, inr (on_map (omega arith, omega arith, omega arith, omega arith), inr (open-ends near_assured.home near_assured.place, inr (λ n. n near_assured, refl))))))) $
    also (inr (good_size, inr (two_fit, inr (good_list, inr (on_map (omega arith, omega arith, omega arith, omega arith), inl (inr rock_closed, refl)))))) $
    also (inr (good_size, inr (two_fit, inr (good_list, inr (on_map (omega arith, omega arith, omega arith, omega arith), inr (open-ends no_way.0 no_way.1, inl (record { from = no_way.0; to = no_way.1; none = no_way.2 }, refl))))))) $
    also (inr (good_size, inr (two_fit, inr (good_list, inr (on_map (omega arith, omega arith, omega arith, omega arith), inr (open-ends start_open end_open, inr (has_way 9 way, inl (omega (arith, length-replicate {A = ℕ} 9 0), refl)))))))) $
    also (inr (good_size, inr (two_fit, inr (good_list, inr (on_map (omega arith, omega arith, omega arith, omega arith), inr (open-ends start_open end_open, inr (has_way 9 way, inr (λ l. omega (arith, length-replicate {A = ℕ} 10 0), refl)))))))) $
    also (inr (good_size, inr (two_fit, inr (good_list, inr (on_map (omega arith, omega arith, omega arith, omega arith), inr (open-ends start_open start_open, inr (has_way 0 still, inl (omega arith, refl)))))))) $
    also (inr (good_size, inr (two_fit, inr (good_list, inr (on_map (omega arith, omega arith, omega arith, omega arith), inr (open-ends start_open start_open, inr (has_way 0 still, inr (λ l. omega (arith, length-replicate {A = ℕ} 1 0), refl)))))))) $
    also (inr (good_size, inr (λ l. l two_formed, inl (shared, refl)))) $
    also (inr (good_size, inr (λ l. l one_formed, inr (not_shared, inl (too_short, refl))))) $
    also (inr (good_size, inr (λ l. l one_formed, inr (not_shared, inr (just_fits, refl))))) $
    also (inr (good_size, inr (λ l. l low_formed, inl (low_shared, refl)))) $
    also (inr (good_size, inr (λ l. l both_formed, inl (both_shared, refl)))) $
    also (inr (good_size, inr (one_fits, inl (low_off_bad, refl)))) $
    none
