-- The rows that the code reads are the sheet of the raster, and those that it writes are a raster
-- of the sheet: row y of the one is row h - (y + 1) of the other.
use Rattle.std.specs.Prelude.{◌≡◌, refl, List, [], ◌∷◌, ◌++◌, ℕ, ◌+◌, ◌*◌, ◌-◌, ◌/◌, ◌%◌, ◌<◌, ◌≤◌, length}
use Rattle.std.proofs.Math.Path.{sym, ap}
use Rattle.std.proofs.Common.{ap₂, subst, ◌∙◌, append_assoc}
use native.Mathlib.Omega.{arith}
use Rattle.std.proofs.Math.Decide.{dec_lt, ℕ_discrete}
use Rattle.std.proofs.Math.Nat.{mul_assoc}
use Rattle.std.proofs.Math.ListN.{get_or, drop, get_or-eq_default}
use Rattle.std.proofs.Math.Seq.{get_or-drop}
use Rattle.field.specs.Map.{On, number, at}
use Rattle.field.specs.Workings.Sheet.{Crossing, crossing}
use Rattle.mapfile.specs.File.{raster_place}
use Rattle.packing.specs.Packing.{pieces}
use Rattle.packing.specs.PackingLaws.{piece_end, pieces_length, pieces_at, pieces_more}
use Rattle.picturefile.specs.declared.Depth.{Depth}
use Rattle.picturefile.specs.declared.Depth.TheVariants.{OneByte, TwoBytes}
use Rattle.picturefile.specs.Depths.{bytes_of, Sample, Drawn}
use Rattle.picturefile.specs.Working.{renewed_of, sample_of}
use Rattle.picturefile.specs.DepthLaws.{sample_of_lem}
use Rattle.picturing.specs.Rasters.{MayRead, numbers_of, row_of, bytes_from, raster_row, raster_of}

-- Pieces of one number.
single_at : (f : ℕ → ℕ) (n i : ℕ) → i < n → get_or (pieces n (λ i. f i ∷ [])) i 0 ≡ f i
single_at f n i l =
    ap (λ (k : ℕ). get_or (pieces n (λ i. f i ∷ [])) k 0) (place i) ∙ pieces_at (λ i. f i ∷ []) 1 (λ i. refl) n i 0 l (omega arith)
  where
    place : (i : ℕ) → i ≡ i * 1 + 0
    place i = omega arith

-- The numbers of a raster from place j on.
sample_drop : (d : Depth) (raster : List ℕ) (j i : ℕ) → sample_of d (drop (j * bytes_of d) raster) i ≡ sample_of d raster (j + i)
unfolding sample_of
sample_drop OneByte raster j i = ap renewed_of (get_or-drop (j * 1) raster i 0 ∙ ap (λ (k : ℕ). get_or raster k 0) (omega arith))
sample_drop TwoBytes raster j i =
    ap₂ (λ (a b : ℕ). 256 * a + b)
    (get_or-drop (j * 2) raster (2 * i) 0 ∙ ap (λ (k : ℕ). get_or raster k 0) (omega arith))
    (get_or-drop (j * 2) raster (2 * i + 1) 0 ∙ ap (λ (k : ℕ). get_or raster k 0) (omega arith))

pub numbers_length : (d : Depth) (raster : List ℕ) (n : ℕ) → length (numbers_of d raster n) ≡ n
unfolding numbers_of
numbers_length d raster n = pieces_length (λ i. sample_of d raster i ∷ []) 1 (λ i. refl) n ∙ omega arith

numbers_at : (d : Depth) (raster : List ℕ) (n i : ℕ) → i < n → get_or (numbers_of d raster n) i 0 ≡ sample_of d raster i
unfolding numbers_of
numbers_at d raster n i l = single_at (sample_of d raster) n i l

-- One number more.
pub numbers_more : (d : Depth) (raster : List ℕ) (n : ℕ) → numbers_of d raster n ++ sample_of d raster n ∷ [] ≡ numbers_of d raster (n + 1)
unfolding numbers_of
numbers_more d raster n = sym (pieces_more n (λ i. sample_of d raster i ∷ []))

-- Reading.
module _ {d : Depth} {w h : ℕ} {raster sheet : List ℕ} (m : MayRead d w h raster sheet) where
  -- A row of the raster ends within the raster.
  pub row_whole : (r : ℕ) → r < h → r * (w * bytes_of d) + w * bytes_of d ≤ length raster
  row_whole r l = omega (arith, piece_end r h (w * bytes_of d) l, mul_assoc h w (bytes_of d), m.whole)

  row_length : (y : ℕ) → length (row_of d raster w h y) ≡ w
  unfolding row_of
  row_length y = numbers_length d (drop ((h - (y + 1)) * (w * bytes_of d)) raster) w

  row_at : (x y : ℕ) → On w h x y → get_or (row_of d raster w h y) x 0 ≡ sample_of d raster (raster_place w h x y)
  unfolding row_of raster_place
  row_at x y o =
      numbers_at d (drop ((h - (y + 1)) * (w * bytes_of d)) raster) w x o.in_x
      ∙ ap (λ (k : ℕ). sample_of d (drop k raster) x) (sym (mul_assoc (h - (y + 1)) w (bytes_of d)))
      ∙ sample_drop d raster ((h - (y + 1)) * w) x

  pub rows_drawn : Drawn d w h raster (pieces h (row_of d raster w h))
  rows_drawn =
      record {
        whole = m.whole;
        size = pieces_length (row_of d raster w h) w row_length h;
        is = λ x y o. subst (Sample d raster (raster_place w h x y)) (sym (number_at x y o)) (sample_of_lem d raster (raster_place w h x y));
      }
    where
      number_at : (x y : ℕ) → On w h x y → at (pieces h (row_of d raster w h)) w x y ≡ sample_of d raster (raster_place w h x y)
      number_at x y o = pieces_at (row_of d raster w h) w row_length h y x o.in_y o.in_x ∙ row_at x y o

-- Writing.
pub bytes_length : (sheet : List ℕ) (n : ℕ) → length (bytes_from sheet n) ≡ n * 2
unfolding bytes_from
bytes_length sheet n = pieces_length (λ i. get_or sheet i 0 / 256 ∷ get_or sheet i 0 % 256 ∷ []) 2 (λ i. refl) n

bytes_at : (sheet : List ℕ) (n i : ℕ) → i < n
    → (get_or (bytes_from sheet n) (i * 2 + 0) 0 ≡ get_or sheet i 0 / 256) × (get_or (bytes_from sheet n) (i * 2 + 1) 0 ≡ get_or sheet i 0 % 256)
unfolding bytes_from
bytes_at sheet n i l = (
  pieces_at (λ i. get_or sheet i 0 / 256 ∷ get_or sheet i 0 % 256 ∷ []) 2 (λ i. refl) n i 0 l (omega arith),
  pieces_at (λ i. get_or sheet i 0 / 256 ∷ get_or sheet i 0 % 256 ∷ []) 2 (λ i. refl) n i 1 l (omega arith),
)

module _ (sheet : List ℕ) (w h : ℕ) where
  row_bytes_lem : (r : ℕ) → length (raster_row sheet w h r) ≡ w * 2
  unfolding raster_row
  row_bytes_lem r = bytes_length (drop ((h - (r + 1)) * w) sheet) w

  pub raster_length : length (raster_of sheet w h) ≡ h * (w * 2)
  unfolding raster_of
  raster_length = pieces_length (raster_row sheet w h) (w * 2) row_bytes_lem h

  -- The two bytes of place r * w + x: those of column x in row h - (r + 1).
  raster_at : (r x : ℕ) → r < h → x < w → (n : ℕ) → n ≡ get_or sheet ((h - (r + 1)) * w + x) 0
      → (get_or (raster_of sheet w h) (2 * (r * w + x)) 0 ≡ n / 256) × (get_or (raster_of sheet w h) (2 * (r * w + x) + 1) 0 ≡ n % 256)
  unfolding raster_of raster_row
  raster_at r x a b n e =
      let row = drop ((h - (r + 1)) * w) sheet in
      let there : get_or row x 0 ≡ n = get_or-drop ((h - (r + 1)) * w) sheet x 0 ∙ sym e in
      let both = bytes_at row w x b in (
        ap (λ (k : ℕ). get_or (raster_of sheet w h) k 0) (first r x)
            ∙ pieces_at (raster_row sheet w h) (w * 2) row_bytes_lem h r (x * 2 + 0) a (omega arith) ∙ both.0 ∙ ap (λ (k : ℕ). k / 256) there,
        ap (λ (k : ℕ). get_or (raster_of sheet w h) k 0) (second r x)
            ∙ pieces_at (raster_row sheet w h) (w * 2) row_bytes_lem h r (x * 2 + 1) a (omega arith) ∙ both.1 ∙ ap (λ (k : ℕ). k % 256) there,
      )
    where
      first : (r x : ℕ) → 2 * (r * w + x) ≡ r * (w * 2) + (x * 2 + 0)
      first r x = omega arith

      second : (r x : ℕ) → 2 * (r * w + x) + 1 ≡ r * (w * 2) + (x * 2 + 1)
      second r x = omega arith

  pub raster_drawn : length sheet ≡ h * w → Drawn TwoBytes w h (raster_of sheet w h) sheet
  unfolding raster_place
  raster_drawn e = record { whole = omega (arith, raster_length, mul_assoc h w 2); size = e; is = is }
    where
      back : (y : ℕ) → y < h → y ≡ h - (h - (y + 1) + 1)
      back y l = omega arith

      is : (x y : ℕ) → On w h x y
          → at sheet w x y
          ≡ 256 * get_or (raster_of sheet w h) (2 * ((h - (y + 1)) * w + x)) 0 + get_or (raster_of sheet w h) (2 * ((h - (y + 1)) * w + x) + 1) 0
      is x y o =
          let n = at sheet w x y in
          let both = raster_at (h - (y + 1)) x (omega (arith, o.in_y)) o.in_x n (ap (λ (k : ℕ). get_or sheet (k * w + x) 0) (back y o.in_y)) in
          omega (arith, both.0, both.1)

  -- Of a sheet of sixteen-bit numbers the raster is bytes.
  pub raster_small : ((k : ℕ) → get_or sheet k 0 < 65536) → (i : ℕ) → get_or (raster_of sheet w h) i 0 < 256
  raster_small f i = go (dec_lt i (h * (w * 2)))
    where
      byte : Crossing w h (i / 2) → get_or (raster_of sheet w h) i 0 < 256
      byte c = by (ℕ_discrete i (2 * (i / 2)))
        where
          n : ℕ
          n = get_or sheet ((h - (c.y + 1)) * w + c.x) 0

          both : (get_or (raster_of sheet w h) (2 * number w c.x c.y) 0 ≡ n / 256) × (get_or (raster_of sheet w h) (2 * number w c.x c.y + 1) 0 ≡ n % 256)
          both = raster_at c.y c.x c.on.in_y c.on.in_x n refl

          small : n < 65536
          small = f ((h - (c.y + 1)) * w + c.x)

          by : Dec (i ≡ 2 * (i / 2)) → get_or (raster_of sheet w h) i 0 < 256
          by (yes e) =
              let k : 2 * number w c.x c.y ≡ i = omega (arith, c.is) in
              subst (λ (k : ℕ). get_or (raster_of sheet w h) k 0 < 256) k (omega (arith, both.0, small))
          by (no e) =
              let k : 2 * number w c.x c.y + 1 ≡ i = omega (arith, c.is) in
              subst (λ (k : ℕ). get_or (raster_of sheet w h) k 0 < 256) k (omega (arith, both.1, small))

      go : Dec (i < h * (w * 2)) → get_or (raster_of sheet w h) i 0 < 256
      go (yes m) = byte (crossing w h (i / 2) (omega (arith, mul_assoc h w 2)))
      go (no m) = omega (arith, get_or-eq_default (raster_of sheet w h) 0 {n = i} (omega (arith, raster_length)))

-- Two bytes more.
pub bytes_more : (sheet : List ℕ) (n : ℕ)
    → (bytes_from sheet n ++ get_or sheet n 0 / 256 ∷ []) ++ get_or sheet n 0 % 256 ∷ [] ≡ bytes_from sheet (n + 1)
unfolding bytes_from
bytes_more sheet n =
    append_assoc (bytes_from sheet n) (get_or sheet n 0 / 256 ∷ []) (get_or sheet n 0 % 256 ∷ [])
    ∙ sym (pieces_more n (λ i. get_or sheet i 0 / 256 ∷ get_or sheet i 0 % 256 ∷ []))
