-- What writing gives is one list of bytes, and a map by the grammar with the same crossings. The
-- first holds as each piece has one form; the second as the pieces are the header and the raster of
-- a P4 file.
use Rattle.std.specs.Prelude.{◌≡◌, refl, ◌↔◌, List, [], ◌∷◌, ◌++◌, get_or}
use Rattle.std.proofs.Common.{sym, ◌∙◌, append_assoc, arith}
use Prim.Native.Nat.{ℕ, ◌+◌, ◌*◌, ◌-◌, ◌<◌}
use Rattle.field.specs.Map.{Sides, On, tallest}
use Rattle.field.specs.Labels.{Rock}
use Rattle.field.specs.Workings.Sheet.{sheet, sheet_length, sheet_at}
use Rattle.mapfile.specs.Header.{Blank, feed, space, no_items, blank_item, Separator, Number, Numbers, last_blank_lem, next_number_lem}
use Rattle.mapfile.specs.Raster.{packed_bit, RawRaster}
use Rattle.mapfile.specs.File.{raw, MapFile, FileRock, raster_place, markers_of}
use Rattle.mapfile.specs.Written.{PackedRows, Written}
use Rattle.mapfile.proofs.FileLaws.{map_file_one}
use Rattle.mapfile.proofs.RockLaws.{markers_of_lem}
use Rattle.mapfile.specs.PlainLaws.{plain_one}
use Rattle.mapfile.proofs.PackedLaws.{Tellable, packed_one}

-- One outcome: two files that writing may give are the same bytes.
pub written_one : (w h : ℕ) (R : ℕ → ℕ → Type 0) → Tellable w h R → (file other : List ℕ) → Written w h R file → Written w h R other → file ≡ other
written_one w h R told file other p q =
    let width : p.width ≡ q.width = plain_one w p.width q.width p.width_is q.width_is in
    let height : p.height ≡ q.height = plain_one h p.height q.height p.height_is q.height_is in
    let rows : p.rows ≡ q.rows = packed_one w h R told p.rows q.rows p.rows_are q.rows_are in
    p.is ∙ rw (width, height, rows) (sym q.is)

-- One blank byte is a separator.
pub blank_separator : (b : ℕ) → Blank b → Separator (b ∷ [])
blank_separator b t =
    record { blanks = 1; some = omega arith; items = blank_item b t (no_items refl refl) refl refl }

-- The header: a blank, a number, a blank, a number, a blank.
header_numbers : (w h : ℕ) (width height : List ℕ) → Number w width → Number h height → Numbers (w ∷ h ∷ []) (10 ∷ width ++ (32 ∷ height ++ 10 ∷ []))
header_numbers w h width height p q =
    next_number_lem w (10 ∷ []) width (32 ∷ height ++ 10 ∷ []) (blank_separator 10 (feed refl)) p
    (next_number_lem h (32 ∷ []) height (10 ∷ []) (blank_separator 32 (space refl)) q (last_blank_lem 10 (feed refl) refl refl) refl refl)
    refl refl

module _ (w h : ℕ) (R : ℕ → ℕ → Type 0) (rows : List ℕ) where
  -- The bits of the packed rows, in raster order.
  row_bits : List ℕ
  row_bits = sheet w h (λ x r. packed_bit w rows r x)

  rows_raster : PackedRows w h R rows → RawRaster w h rows row_bits
  unfolding row_bits
  rows_raster p =
      record {
        size = p.size;
        crossings = sheet_length w h (λ x r. packed_bit w rows r x);
        bit = λ r x a b. sheet_at w h (λ x r. packed_bit w rows r x) x r (record { in_x = b; in_y = a });
      }

  rows_rock : Tellable w h R → PackedRows w h R rows → (x y : ℕ) → FileRock w h row_bits x y ↔ (On w h x y × R x y)
  unfolding raster_place row_bits
  rows_rock told p x y = (λ f. (f.on, go f.on (told x y f.on) f.one), λ t. record { on = t.0; one = here t.0 ∙ rock t.0 t.1 })
    where
      r : ℕ
      r = h - (y + 1)

      row : On w h x y → h - (r + 1) ≡ y
      row o = omega (arith, o.in_y)

      here : On w h x y → get_or row_bits (r * w + x) 0 ≡ packed_bit w rows r x
      here o = (rows_raster p).bit r x (omega (arith, o.in_y)) o.in_x

      rock : On w h x y → R x y → packed_bit w rows r x ≡ 1
      rock o m = p.rock r x (omega (arith, o.in_y)) o.in_x (rw (row o) m)

      free : On w h x y → ¬ R x y → packed_bit w rows r x ≡ 0
      free o m = p.free r x (omega (arith, o.in_y)) o.in_x (λ n. m (rw (row o) at n))

      go : On w h x y → Dec (R x y) → get_or row_bits (r * w + x) 0 ≡ 1 → R x y
      go o (yes m) e = m
      go o (no m) e = absurd (omega (arith, here o, free o m, e))

-- What is written is a map by the grammar, and its rocks are the map's.
pub written_map : (w h : ℕ) (R : ℕ → ℕ → Type 0) → Tellable w h R → (file : List ℕ) → Sides w h → Written w h R file
    → (bits : List ℕ) × MapFile file w h bits × ((x y : ℕ) → (FileRock w h bits x y ↔ (On w h x y × R x y)))
written_map w h R told file sides p = (
  row_bits w h R p.rows,
  record {
    format = raw;
    after = 10 ∷ p.width ++ 32 ∷ p.height ++ 10 ∷ p.rows;
    body = p.rows;
    letters = p.is;
    header = record { bytes = 10 ∷ p.width ++ (32 ∷ p.height ++ 10 ∷ []); numbers = header_numbers w h p.width p.height p.width_is.number p.height_is.number; is = split p.width p.height p.rows };
    sides = sides;
    raster = rows_raster w h R p.rows p.rows_are;
  },
  rows_rock w h R p.rows told p.rows_are,
)
  where
    split : (a b c : List ℕ) → 10 ∷ a ++ 32 ∷ b ++ 10 ∷ c ≡ 10 ∷ a ++ (32 ∷ b ++ 10 ∷ []) ++ c
    split a b c = simp append_assoc

-- A file is read as this map: the width and height are those that were written, and the markers
-- that reading makes stand exactly on its rocks, for every cart but the highest.
pub record ReadBack (w h : ℕ) (R : ℕ → ℕ → Type 0) (width height : ℕ) (bits : List ℕ) : Type 0 where
  pub width_is : width ≡ w
  pub height_is : height ≡ h
  pub rocks : (clearance x y : ℕ) → clearance < tallest → Rock clearance (markers_of width height bits) x y ↔ (On w h x y × R x y)

-- "Reading a written map ... gives the same crossings": by the grammar a file is one map at most,
-- and what is written is that of the rocks.
pub read_written : (w h : ℕ) (R : ℕ → ℕ → Type 0) → Tellable w h R → (file : List ℕ) → Sides w h → Written w h R file
    → (width height : ℕ) (bits : List ℕ) → MapFile file width height bits → ReadBack w h R width height bits
read_written w h R told file sides p width height bits m =
    let k = written_map w h R told file sides p in
    let e = map_file_one m k.1 in
    record { width_is = e.0; height_is = e.1; rocks = λ c x y low. rw (e.0, e.1, e.2) (there c x y low k.1 k.2) }
  where
    there : {own : List ℕ} (c x y : ℕ) → c < tallest → MapFile file w h own → ((x y : ℕ) → (FileRock w h own x y ↔ (On w h x y × R x y)))
        → Rock c (markers_of w h own) x y ↔ (On w h x y × R x y)
    there c x y low n f = (λ r. (f x y).0 ((markers_of_lem n c x y low).0 r), λ t. (markers_of_lem n c x y low).1 ((f x y).1 t))
