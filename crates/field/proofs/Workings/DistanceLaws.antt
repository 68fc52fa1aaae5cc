-- The four distances of a crossing and the distance sheets of the map: each has one value, and
-- looking gives it. Both are made of single clear distances, so both follow from the law of one.
use Rattle.std.specs.Prelude.{◌≡◌, refl, List, ◌↔◌, ℕ}
use Rattle.field.specs.Workings.Tests.{only}
use Rattle.field.specs.Map.{On}
use Rattle.field.specs.Distances.{Way, eastward, southward, westward, northward, Distances, DistanceSheet}
use Rattle.field.specs.Workings.Sheet.{Draws, sheet_at, sheet_length, sheet_same}
use Rattle.field.specs.Workings.Looking.{clear_of, distances_of, distance_sheet_of}
use Rattle.field.proofs.Workings.ClearLaws.{clear_one, clear_of_lem}

-- A crossing has one list of four distances, and the map one distance sheet each way.
pub distances_one : {C : ℕ → ℕ → Type 0} {x y : ℕ} {f g : List ℕ} → Distances C x y f → Distances C x y g → f ≡ g
distances_one d d' =
    cc (clear_one d.east d'.east, clear_one d.south d'.south, clear_one d.west d'.west, clear_one d.north d'.north)

pub distance_sheet_one : {w h : ℕ} {C : ℕ → ℕ → Type 0} {t : Way} {m n : List ℕ} → DistanceSheet w h C t m → DistanceSheet w h C t n → m ≡ n
distance_sheet_one {w} {h} {m = m} {n = n} d d' =
    sheet_same w h m n d.size d'.size (λ x y o. clear_one (d.distance x y o) (d'.distance x y o))

module _ (w h : ℕ) (C : ℕ → ℕ → Type 0) (s : List ℕ) (D : Draws w h C s) where
  distances_of_lem : (x y : ℕ) → On w h x y → Distances C x y (distances_of s w h x y)
  unfolding distances_of
  distances_of_lem x y o =
      record {
        e = clear_of eastward s w h x y;
        s = clear_of southward s w h x y;
        w = clear_of westward s w h x y;
        n = clear_of northward s w h x y;
        in_order = refl;
        east = clear_of_lem w h C s D eastward x y o;
        south = clear_of_lem w h C s D southward x y o;
        west = clear_of_lem w h C s D westward x y o;
        north = clear_of_lem w h C s D northward x y o;
      }

  distance_sheet_of_lem : (t : Way) → DistanceSheet w h C t (distance_sheet_of t s w h)
  unfolding distance_sheet_of
  distance_sheet_of_lem t =
      record {
        size = sheet_length w h (clear_of t s w h);
        distance = λ x y o. rw (sheet_at w h (clear_of t s w h) x y o) (clear_of_lem w h C s D t x y o);
      }

  -- A crossing's four distances are those that looking each way finds.
  pub distances_look : (x y : ℕ) (four : List ℕ) → On w h x y → (Distances C x y four ↔ four ≡ distances_of s w h x y)
  distances_look x y four o = only (Distances C x y) (distances_of s w h x y) (distances_of_lem x y o) (λ f g. distances_one) four

  -- The map's distances one way are those that looking that way from each crossing finds.
  pub distance_sheet_looks : (t : Way) (m : List ℕ) → (DistanceSheet w h C t m ↔ m ≡ distance_sheet_of t s w h)
  distance_sheet_looks t m = only (DistanceSheet w h C t) (distance_sheet_of t s w h) (distance_sheet_of_lem t) (λ m n. distance_sheet_one) m
