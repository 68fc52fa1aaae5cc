-- A rock's marker: its id, column and row fit a record's fields.
use Rattle.std.proofs.Common.{ℕ, ◌+◌, ◌/◌, ◌%◌, ◌^◌, ◌<◌, arith, mod-lt, div-lt_iff_lt-mul}
use Rattle.field.specs.Map.{Sides}
use Rattle.field.specs.Limits.{side_is, most_markers_is, crossings_few}
use Rattle.exchange.specs.Promise.{MayMark}

-- A place on the map has a row, and the numbers of its marker fit sixteen bits.
pub record MarkFits (w h place k : ℕ) : Type 0 where
  pub inside : place / w < h
  pub place_fits : place < 2 ^ 32
  pub row : w < 2 ^ 32
  pub id : k + 1 < 2 ^ 16
  pub x : place % w < 2 ^ 16
  pub y : h < 2 ^ 16

pub mark_fits : {w h place k : ℕ} → Sides w h → MayMark w h place k → MarkFits w h place k
mark_fits {w} {h} {place} {k} s m =
    record {
      inside = (div-lt_iff_lt-mul {k = w} {x = place} {y = h} s.some_w).1 m.on;
      place_fits = omega (arith, m.on, crossings_few s);
      row = omega (arith, s.most_w, side_is);
      id = omega (arith, m.few, most_markers_is);
      x = omega (arith, mod-lt place s.some_w, s.most_w, side_is);
      y = omega (arith, s.most_h, side_is);
    }
