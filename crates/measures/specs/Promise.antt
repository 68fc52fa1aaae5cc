-- The promise of the whole map's clear distances, over a sheet that marks the closed crossings:
-- whatever is not 0 on it.
use Rattle.std.specs.Prelude.{◌≡◌, List, ℕ, ◌*◌, length}
use Rattle.field.specs.Distances.{DistanceSheet, eastward, southward, westward, northward}
use Rattle.field.specs.Workings.Sheet.{Marked}

-- Four sheets of the map's size.
pub record SheetsLent (w h : ℕ) (e d f n : List ℕ) : Type 0 where
  pub east : length e ≡ h * w
  pub south : length d ≡ h * w
  pub west : length f ≡ h * w
  pub north : length n ≡ h * w

-- The four sheets hold the distances of the whole map, east, south, west, north.
pub record Measured (w h : ℕ) (s e d f n : List ℕ) : Type 0 where
  pub east : DistanceSheet w h (Marked s w h) eastward e
  pub south : DistanceSheet w h (Marked s w h) southward d
  pub west : DistanceSheet w h (Marked s w h) westward f
  pub north : DistanceSheet w h (Marked s w h) northward n
