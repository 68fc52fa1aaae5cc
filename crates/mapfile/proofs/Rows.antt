-- A test for each row of the table of small files, which the checker computes, and that a row which
-- passes its test holds.
use Rattle.std.specs.Prelude.{◌≡◌, refl, Bool, true, false, cond, not, ◌&&◌, ◌||◌, List, [], ◌∷◌, ◌++◌, ◌↔◌, ℕ, ◌+◌, ◌*◌, ◌-◌, ◌<◌, ◌≤◌, ltb, leb, eqb, length, get_or, take, drop}
use Rattle.std.proofs.Common.{subst, arith}
use Rattle.std.proofs.lemmas.Bool.{false≢true}
use Rattle.std.proofs.Math.ListN.{get_or-eq_default}
use Rattle.std.proofs.Math.Decide.{dec_lt}
use borrow.Author.Tests.{ltb-true, leb-true, eqb-true, eqb-false, not-true}
use Rattle.field.specs.declared.Marker.{Marker}
use Rattle.field.specs.Limits.{tallest_some}
use Rattle.field.specs.Labels.{Rock}
use Rattle.field.specs.Table.{Place, markers_on, RocksOn}
use Rattle.field.specs.Workings.Tests.{bit, and_split, or_case, only, test_dec}
use Rattle.field.proofs.Workings.Corners.{every, every_one, every_two}
use Rattle.field.specs.Workings.Stamping.{rock_of}
use Rattle.field.proofs.Workings.Stamping.{rock_of_lem, of_rock}
use Rattle.field.proofs.Workings.RowTests.{same, same_is}
use Rattle.mapfile.specs.Header.{Digit, value_from, most_digits}
use Rattle.mapfile.specs.Raster.{row_bytes, packed_bit}
use Rattle.mapfile.specs.File.{raw_letters, MapFile, FileRock, FileFault, markers_of}
use Rattle.mapfile.specs.FileWorking.{Found, a_map, a_fault, file_found, FileTold}
use Rattle.mapfile.proofs.FileWorking.{file_told}
use Rattle.mapfile.proofs.RockLaws.{markers_of_lem}
use Rattle.mapfile.specs.Written.{Plain, PackedRows, Written}
use Rattle.mapfile.proofs.PackedLaws.{Tellable}
use Rattle.mapfile.proofs.WrittenLaws.{written_one}
use Rattle.mapfile.specs.Table.{Row, is_map, has_fault, is_written, Holds}

-- What a file is found to be is this map, or this fault.
unfoldable pub found_map : ℕ → ℕ → List ℕ → Found → Bool
found_map w h bits (a_map a b cs) = (eqb a w && eqb b h) && same cs bits
found_map w h bits (a_fault n) = false

unfoldable pub found_fault : ℕ → Found → Bool
found_fault n (a_map a b cs) = false
found_fault n (a_fault k) = eqb k n

found_map_lem : (file : List ℕ) (w h : ℕ) (bits : List ℕ) (o : Found) → FileTold file o → found_map w h bits o ≡ true → MapFile file w h bits
unfolding found_map
found_map_lem file w h bits (a_map a b cs) t e =
    let f = and_split _ _ e in
    let g = and_split _ _ f.0 in
    rw (← eqb-true a w g.0, ← eqb-true b h g.1, ← same_is cs bits f.1) t
found_map_lem file w h bits (a_fault n) t e = absurd (false≢true e)

found_fault_lem : (file : List ℕ) (n : ℕ) (o : Found) → FileTold file o → found_fault n o ≡ true → FileFault file n
unfolding found_fault
found_fault_lem file n (a_map a b cs) t e = absurd (false≢true e)
found_fault_lem file n (a_fault k) t e = subst (FileFault file) (eqb-true k n e) t

-- Two lists of markers are the same.
unfoldable pub alike : List Marker → List Marker → Bool
alike [] [] = true
alike [] (m ∷ ms) = false
alike (n ∷ ns) [] = false
alike (n ∷ ns) (m ∷ ms) = ((eqb n.id m.id && eqb n.x m.x) && (eqb n.y m.y && eqb n.height m.height)) && alike ns ms

alike_is : (s t : List Marker) → alike s t ≡ true → s ≡ t
unfolding alike
alike_is [] [] e = refl
alike_is [] (m ∷ ms) e = absurd (false≢true e)
alike_is (n ∷ ns) [] e = absurd (false≢true e)
alike_is (n ∷ ns) (m ∷ ms) e =
    let f = and_split _ _ e in
    let g = and_split _ _ f.0 in
    let h = and_split _ _ g.0 in
    let k = and_split _ _ g.1 in
    let p : n.id ≡ m.id = eqb-true _ _ h.0 in
    let q : n.x ≡ m.x = eqb-true _ _ h.1 in
    let r : n.y ≡ m.y = eqb-true _ _ k.0 in
    let t : n.height ≡ m.height = eqb-true _ _ k.1 in
    let first : n ≡ m = λ i. record { id = p i; x = q i; y = r i; height = t i } in
    let later : ns ≡ ms = alike_is ns ms f.1 in
    cc

-- The bytes are the number without leading zeros.
unfoldable pub digit_of : List ℕ → ℕ → Bool
digit_of l k = leb 48 (get_or l k 0) && leb (get_or l k 0) 57

unfoldable pub plain_of : ℕ → List ℕ → Bool
plain_of v l =
    (every (length l) (digit_of l) && (leb 1 (length l) && leb (length l) most_digits)) && (eqb v (value_from 0 l) && not (eqb (get_or l 0 0) 48))

pub plain_of_lem : (v : ℕ) (l : List ℕ) → plain_of v l ≡ true → Plain v l
unfolding plain_of digit_of
plain_of_lem v l e =
    let f = and_split _ _ e in
    let g = and_split _ _ f.0 in
    let h = and_split _ _ g.1 in
    let i = and_split _ _ f.1 in
    record {
      number = record {
        digits = λ k m. digit k (every_one (length l) (digit_of l) g.0 k m);
        some = leb-true _ _ h.0;
        few = leb-true _ _ h.1;
        value = eqb-true _ _ i.0;
      };
      leading = eqb-false (get_or l 0 0) 48 (not-true _ i.1);
    }
  where
    digit : (k : ℕ) → digit_of l k ≡ true → Digit (get_or l k 0)
    digit k q = let s = and_split _ _ q in record { from_zero = leb-true _ _ s.0; to_nine = leb-true _ _ s.1 }

-- The bytes are the packed rows of these rocks.
unfoldable pub crossing_of : ℕ → ℕ → List Place → List ℕ → ℕ → ℕ → Bool
crossing_of w h rocks l r x = eqb (packed_bit w l r x) (bit (rock_of 0 (markers_on rocks) x (h - (r + 1))))

unfoldable pub pad_of : ℕ → List ℕ → ℕ → ℕ → Bool
pad_of w l r x = ltb x w || eqb (packed_bit w l r x) 0

unfoldable pub byte_of : List ℕ → ℕ → Bool
byte_of l i = ltb (get_or l i 0) 256

pub byte_of_lem : (l : List ℕ) → every (length l) (byte_of l) ≡ true → (i : ℕ) → get_or l i 0 < 256
unfolding byte_of
byte_of_lem l e i = go (dec_lt i (length l))
  where
    go : Dec (i < length l) → get_or l i 0 < 256
    go (yes m) = ltb-true _ _ (every_one (length l) (byte_of l) e i m)
    go (no m) = omega (arith, get_or-eq_default l 0 {n = i} (omega arith))

unfoldable pub packed_of : ℕ → ℕ → List Place → List ℕ → Bool
packed_of w h rocks l =
    (eqb (length l) (h * row_bytes w) && every (length l) (byte_of l))
    && (every h (λ r. every w (crossing_of w h rocks l r)) && every h (λ r. every (row_bytes w * 8) (pad_of w l r)))

module _ (w h : ℕ) (rocks : List Place) (l : List ℕ) where
  crossing_of_lem : (r x : ℕ) → crossing_of w h rocks l r x ≡ true → packed_bit w l r x ≡ bit (rock_of 0 (markers_on rocks) x (h - (r + 1)))
  unfolding crossing_of
  crossing_of_lem r x e = eqb-true _ _ e

  pad_of_lem : (r x : ℕ) → w ≤ x → pad_of w l r x ≡ true → packed_bit w l r x ≡ 0
  unfolding pad_of
  pad_of_lem r x m e = or_case (ltb x w) (eqb (packed_bit w l r x) 0) (λ q. absurd (omega (arith, ltb-true x w q))) (eqb-true (packed_bit w l r x) 0) e

  told_bit : (b : Bool) {n : ℕ} → n ≡ bit b → b ≡ true → n ≡ 1
  told_bit true p e = p
  told_bit false p e = absurd (false≢true e)

  untold_bit : (b : Bool) {n : ℕ} → n ≡ bit b → ¬ (b ≡ true) → n ≡ 0
  untold_bit true p e = absurd (e refl)
  untold_bit false p e = p

  packed_of_lem : packed_of w h rocks l ≡ true → PackedRows w h (RocksOn rocks) l
  unfolding packed_of
  packed_of_lem e =
      let f = and_split _ _ e in
      let g = and_split _ _ f.0 in
      let k = and_split _ _ f.1 in
      let at : (r x : ℕ) → r < h → x < w → packed_bit w l r x ≡ bit (rock_of 0 (markers_on rocks) x (h - (r + 1))) =
      λ r x p q. crossing_of_lem r x (every_two h w (crossing_of w h rocks l) k.0 x r q p) in
      record {
        size = eqb-true _ _ g.0;
        bytes = byte_of_lem l g.1;
        rock = λ r x p q m. told_bit _ (at r x p q) (of_rock 0 (markers_on rocks) x (h - (r + 1)) m);
        free = λ r x p q m. untold_bit _ (at r x p q) (λ t. m (rock_of_lem 0 (markers_on rocks) x (h - (r + 1)) t));
        pad = λ r x p q m. pad_of_lem r x q (every_two h (row_bytes w * 8) (pad_of w l) k.1 x r m p);
      }

-- A file as writing gives it: its parts are taken out by their places. A side has one digit or two.
unfoldable pub digits_in : ℕ → ℕ
digits_in v = cond (ltb v 10) 1 2

unfoldable pub width_in : ℕ → List ℕ → List ℕ
width_in w file = take (digits_in w) (drop 3 file)

unfoldable pub height_in : ℕ → ℕ → List ℕ → List ℕ
height_in w h file = take (digits_in h) (drop (digits_in w + 4) file)

unfoldable pub rows_in : ℕ → ℕ → List ℕ → List ℕ
rows_in w h file = drop (digits_in w + digits_in h + 5) file

unfoldable pub written_of : ℕ → ℕ → List Place → List ℕ → Bool
written_of w h rocks file =
    (plain_of w (width_in w file) && plain_of h (height_in w h file))
    && (packed_of w h rocks (rows_in w h file) && same file (raw_letters ++ 10 ∷ width_in w file ++ 32 ∷ height_in w h file ++ 10 ∷ rows_in w h file))

written_of_lem : (w h : ℕ) (rocks : List Place) (file : List ℕ) → written_of w h rocks file ≡ true → Written w h (RocksOn rocks) file
unfolding written_of
written_of_lem w h rocks file e =
    let f = and_split _ _ e in
    let g = and_split _ _ f.0 in
    let k = and_split _ _ f.1 in
    record {
      width = width_in w file;
      height = height_in w h file;
      rows = rows_in w h file;
      width_is = plain_of_lem w (width_in w file) g.0;
      height_is = plain_of_lem h (height_in w h file) g.1;
      rows_are = packed_of_lem w h rocks (rows_in w h file) k.0;
      is = same_is file _ k.1;
    }

rocks_told : (w h : ℕ) (rocks : List Place) → Tellable w h (RocksOn rocks)
rocks_told w h rocks x y o = test_dec (rock_of 0 (markers_on rocks) x y) (of_rock 0 (markers_on rocks) x y, rock_of_lem 0 (markers_on rocks) x y)

-- The tests.
unfoldable pub passes : Row → Bool
passes (is_map file w h bits rocks) = found_map w h bits (file_found file) && alike (markers_of w h bits) (markers_on rocks)
passes (has_fault file n) = found_fault n (file_found file)
passes (is_written w h rocks file) = written_of w h rocks file

pub passes_holds : (r : Row) → passes r ≡ true → Holds r
unfolding passes
passes_holds (is_map file w h bits rocks) e =
    let f = and_split _ _ e in
    let m = found_map_lem file w h bits (file_found file) (file_told file) f.0 in
    let s : markers_of w h bits ≡ markers_on rocks = alike_is _ _ f.1 in
    (m, s, λ x y. let t = subst (λ (l : List Marker). Rock 0 l x y ↔ FileRock w h bits x y) s (markers_of_lem m 0 x y tallest_some) in (t.1, t.0))
passes_holds (has_fault file n) e = found_fault_lem file n (file_found file) (file_told file) e
passes_holds (is_written w h rocks file) e =
    only (Written w h (RocksOn rocks)) file (written_of_lem w h rocks file e) (written_one w h (RocksOn rocks) (rocks_told w h rocks))
