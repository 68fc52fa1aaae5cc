-- Bits turned onto a sheet stamp it with the file's rocks: 1 on each rock's crossing, 0 elsewhere.
use Rattle.std.proofs.Common.{ap, arith, get_or-take}
use Rattle.std.specs.Prelude.{List, ℕ, ◌+◌, ◌*◌, ◌-◌, ◌<◌, ◌≤◌, get_or, take}
use Rattle.std.proofs.Math.Decide.{dec_lt}
use Rattle.std.proofs.Math.ListN.{get_or-eq_default}
use Rattle.field.specs.Map.{Sides, On}
use Rattle.field.specs.Labels.{RockOn}
use Rattle.field.specs.Workings.Sheet.{Draws, Crossing, crossing, number_lt}
use Rattle.rows.specs.Sheets.{Stamped, Stones}
use Rattle.field.proofs.Workings.SameLaws.{Alike}
use Rattle.mapfile.specs.File.{raster_place, FileRock}
use Rattle.mapfile.specs.Turned.{Turned}

module _ {w h : ℕ} (bits : List ℕ) {sheet : List ℕ} (s : Sides w h) (ones : (i : ℕ) → i < h * w → get_or bits i 0 ≤ 1)
    (t : Turned w h (take (h * w) bits) sheet) where
  place_lt : (x y : ℕ) → On w h x y → raster_place w h x y < h * w
  unfolding raster_place
  place_lt x y o = number_lt w h x (h - (y + 1)) (record { in_x = o.in_x; in_y = omega (arith, o.in_y) })

  sheet_ones : (i : ℕ) → get_or sheet i 0 ≤ 1
  sheet_ones i = go (dec_lt i (h * w))
    where
      at_crossing : Crossing w h i → get_or sheet i 0 ≤ 1
      at_crossing c =
          let place = raster_place w h c.x c.y in
          let lt = place_lt c.x c.y c.on in
          omega (
            arith,
            ap (λ (k : ℕ). get_or sheet k 0) c.is,
            t.is c.x c.y c.on,
            get_or-take (h * w) bits place 0 lt,
            ones place lt,
          )

      go : Dec (i < h * w) → get_or sheet i 0 ≤ 1
      go (yes l) = at_crossing (crossing w h i l)
      go (no l) = omega (arith, get_or-eq_default sheet 0 {n = i} (omega (arith, t.size)))

  pub turned_stamped : Stamped w h sheet
  turned_stamped = record { sides = s; size = t.size; ones = sheet_ones }

  -- The rocks of such a sheet are the file's.
  pub turned_draws : Draws w h (RockOn (FileRock w h (take (h * w) bits)) w h) sheet
  turned_draws =
      record {
        sound = λ x y k.
            record { on = k.on; stone = record { on = k.on; one = omega (arith, t.is x y k.on, sheet_ones (y * w + x), k.mark) } };
        complete = λ x y r. record { on = r.on; mark = omega (arith, t.is x y r.on, r.stone.one) };
      }

-- The rocks stamped on a sheet are those that it draws.
pub stones_alike : {w h : ℕ} {R : ℕ → ℕ → Type 0} {s : List ℕ} → Draws w h (RockOn R w h) s → Alike (RockOn (Stones w h s) w h) (RockOn R w h)
stones_alike d x y = (λ r. d.sound x y r.stone, λ r. record { on = r.on; stone = d.complete x y r })
