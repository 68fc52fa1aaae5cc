-- The rows of a raster, the southmost first, are the sheet of it: a crossing's byte stands as far
-- along its row.
use Rattle.std.specs.Prelude.{◌≡◌, List, ℕ, ◌+◌, ◌*◌, ◌-◌, ◌<◌, ◌≤◌, length, get_or, take, drop}
use Rattle.std.proofs.Common.{◌∙◌, arith}
use Rattle.std.proofs.Math.ListN.{length-drop}
use Rattle.std.proofs.Math.Seq.{length-take-le, get_or-take, get_or-drop}
use Rattle.field.specs.Map.{Sides, On, at}
use Rattle.field.specs.Workings.Sheet.{number_lt}
use Rattle.mapfile.specs.File.{raster_place}
use Rattle.mapfile.specs.Turned.{Turned}
use Rattle.packing.specs.Packing.{pieces}
use Rattle.packing.specs.PackingLaws.{piece_end, pieces_length, pieces_at}
use Rattle.turning.specs.Turning.{MayTurn, raster_row}

module _ {w h : ℕ} {raster sheet : List ℕ} (s : Sides w h) (m : MayTurn w h raster sheet) where
  -- A row of the raster ends within the raster.
  pub row_whole : (r : ℕ) → r < h → r * w + w ≤ length raster
  row_whole r l = omega (arith, piece_end r h w l, m.whole)

  row_length : (y : ℕ) → length (raster_row raster w h y) ≡ w
  unfolding raster_row
  row_length y =
      let r = h - (y + 1) in
      let whole = row_whole r (omega (arith, s.some_h)) in
      length-take-le w (drop (r * w) raster) (omega (arith, length-drop (r * w) raster))

  abbrev rows : List ℕ
  rows = pieces h (raster_row raster w h)

  rows_at : (x y : ℕ) → On w h x y → at rows w x y ≡ get_or raster (raster_place w h x y) 0
  unfolding raster_row raster_place
  rows_at x y o =
      pieces_at (raster_row raster w h) w row_length h y x o.in_y o.in_x
      ∙ get_or-take w (drop ((h - (y + 1)) * w) raster) x 0 o.in_x
      ∙ get_or-drop ((h - (y + 1)) * w) raster x 0

  place_lt : (x y : ℕ) → On w h x y → raster_place w h x y < h * w
  unfolding raster_place
  place_lt x y o = number_lt w h x (h - (y + 1)) (record { in_x = o.in_x; in_y = omega (arith, o.in_y) })

  rows_length : length rows ≡ h * w
  rows_length = pieces_length (raster_row raster w h) w row_length h

  pub rows_turned : Turned w h (take (h * w) raster) rows
  rows_turned =
      record {
        size = rows_length;
        is = λ x y o. rw (get_or-take (h * w) raster (raster_place w h x y) 0 (place_lt x y o)) (rows_at x y o);
      }
