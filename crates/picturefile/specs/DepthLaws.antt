-- A raster has one number at a place and one sheet, and of two bytes a crossing a sheet has one
-- raster. The largest value tells the two kinds apart.
use Rattle.std.specs.Prelude.{◌≡◌, refl, List, ℕ, ◌+◌, ◌*◌, ◌-◌, ◌/◌, ◌<◌, length, get_or}
use Rattle.std.proofs.Common.{sym, ap, subst, ◌∙◌, arith, ext_get_or}
use Rattle.std.proofs.Math.Decide.{ℕ_discrete}
use Rattle.field.specs.Map.{On, at, no_distance, old_mark}
use Rattle.field.specs.Limits.{largest_is, old_largest_is}
use Rattle.field.specs.Workings.Sheet.{sheet_length, sheet_at, sheet_same, Crossing, crossing}
use Rattle.mapfile.specs.File.{raster_place}
use Rattle.mapfile.specs.HeaderWorking.{pick, pick_yes, pick_no}
use Rattle.picturefile.specs.declared.Depth.{Depth}
use Rattle.picturefile.specs.declared.Depth.TheVariants.{OneByte, TwoBytes}
use Rattle.picturefile.specs.Depths.{largest_of, bytes_of, Renewed, marked, itself, Sample, Drawn}
use Rattle.picturefile.specs.Working.{renewed_of, sample_of, sheet_of}

-- A kind has one largest value, and no two kinds have the same.
pub depth_one : (d e : Depth) → largest_of d ≡ largest_of e → d ≡ e
depth_one OneByte OneByte q = refl
depth_one OneByte TwoBytes q = absurd (omega (arith, largest_is, old_largest_is))
depth_one TwoBytes OneByte q = absurd (omega (arith, largest_is, old_largest_is))
depth_one TwoBytes TwoBytes q = refl

-- The number of an old sheet's byte.
pub renewed_one : {byte n m : ℕ} → Renewed byte n → Renewed byte m → n ≡ m
renewed_one (marked p q) (marked r s) = q ∙ sym s
renewed_one (marked p q) (itself r s) = absurd (r p)
renewed_one (itself p q) (marked r s) = absurd (p r)
renewed_one (itself p q) (itself r s) = q ∙ sym s

pub renewed_of_lem : (byte : ℕ) → Renewed byte (renewed_of byte)
unfolding renewed_of
renewed_of_lem byte = go (ℕ_discrete byte old_mark)
  where
    go : Dec (byte ≡ old_mark) → Renewed byte (pick (ℕ_discrete byte old_mark) no_distance byte)
    go (yes e) = marked e (pick_yes (ℕ_discrete byte old_mark) _ _ e)
    go (no e) = itself e (pick_no (ℕ_discrete byte old_mark) _ _ e)

-- The number at a place.
pub sample_one : (d : Depth) (raster : List ℕ) (i n m : ℕ) → Sample d raster i n → Sample d raster i m → n ≡ m
sample_one OneByte raster i n m p q = renewed_one p q
sample_one TwoBytes raster i n m p q = p ∙ sym q

pub sample_of_lem : (d : Depth) (raster : List ℕ) (i : ℕ) → Sample d raster i (sample_of d raster i)
unfolding sample_of
sample_of_lem OneByte raster i = renewed_of_lem (get_or raster i 0)
sample_of_lem TwoBytes raster i = refl

-- The sheet of a raster.
pub drawn_one : {d : Depth} {w h : ℕ} {raster sheet other : List ℕ} → Drawn d w h raster sheet → Drawn d w h raster other → sheet ≡ other
drawn_one {d} {w} {h} {raster} {sheet} {other} a b =
    sheet_same w h sheet other a.size b.size (λ x y o. sample_one d raster (raster_place w h x y) _ _ (a.is x y o) (b.is x y o))

pub drawn_of : (d : Depth) (w h : ℕ) (raster : List ℕ) → length raster ≡ h * w * bytes_of d → Drawn d w h raster (sheet_of d w h raster)
unfolding sheet_of
drawn_of d w h raster e =
    record {
      whole = e;
      size = sheet_length w h numbers;
      is = λ x y o. subst (Sample d raster (raster_place w h x y)) (sym (sheet_at w h numbers x y o)) (sample_of_lem d raster (raster_place w h x y));
    }
  where
    numbers : ℕ → ℕ → ℕ
    numbers x y = sample_of d raster (raster_place w h x y)

-- Every place of a raster is a crossing's.
pub record Placed (w h i : ℕ) : Type 0 where
  pub x : ℕ
  pub y : ℕ
  pub on : On w h x y
  pub is : raster_place w h x y ≡ i

pub placed : (w h i : ℕ) → i < h * w → Placed w h i
unfolding raster_place
placed w h i l = go (crossing w h i l)
  where
    there : (r : ℕ) → r < h → h - (h - (r + 1) + 1) ≡ r
    there r m = omega arith

    go : Crossing w h i → Placed w h i
    go c =
        record {
          x = c.x;
          y = h - (c.y + 1);
          on = record { in_x = c.on.in_x; in_y = omega (arith, c.on.in_y) };
          is = ap (λ (r : ℕ). r * w + c.x) (there c.y c.on.in_y) ∙ c.is;
        }

-- The raster of a sheet, of two bytes a crossing: a number below 65,536 has one high byte and one
-- low byte.
two_one : (a b c d n : ℕ) → b < 256 → d < 256 → n ≡ 256 * a + b → n ≡ 256 * c + d → (a ≡ c) × (b ≡ d)
two_one a b c d n p q r s = (omega arith, omega arith)

pub raster_one : {w h : ℕ} {raster other sheet : List ℕ} → ((i : ℕ) → get_or raster i 0 < 256) → ((i : ℕ) → get_or other i 0 < 256)
    → Drawn TwoBytes w h raster sheet → Drawn TwoBytes w h other sheet → raster ≡ other
raster_one {w} {h} {raster} {other} {sheet} p q a b =
    ext_get_or 0 raster other (a.whole ∙ sym b.whole) (λ i l. by_place i (placed w h (i / 2) (omega (arith, a.whole))))
  where
    same : (j : ℕ) → Placed w h j → (get_or raster (2 * j) 0 ≡ get_or other (2 * j) 0) × (get_or raster (2 * j + 1) 0 ≡ get_or other (2 * j + 1) 0)
    same j c = two_one _ _ _ _ (at sheet w c.x c.y) (p _) (q _) (rw c.is at (a.is c.x c.y c.on)) (rw c.is at (b.is c.x c.y c.on))

    by_place : (i : ℕ) → Placed w h (i / 2) → get_or raster i 0 ≡ get_or other i 0
    by_place i c = go (ℕ_discrete i (2 * (i / 2)))
      where
        go : Dec (i ≡ 2 * (i / 2)) → get_or raster i 0 ≡ get_or other i 0
        go (yes e) = subst (λ (k : ℕ). get_or raster k 0 ≡ get_or other k 0) (sym e) (same (i / 2) c).0
        go (no e) = let odd : 2 * (i / 2) + 1 ≡ i = omega arith in subst (λ (k : ℕ). get_or raster k 0 ≡ get_or other k 0) odd (same (i / 2) c).1
