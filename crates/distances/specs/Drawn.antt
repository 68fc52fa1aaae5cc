-- What the code answers over a sheet, said of the closed crossings that the sheet draws: whatever C
-- the sheet's marks are, the answers are C's. Each working gives one answer for one sheet, so the
-- meaning over the marks and the meaning over C are the same.
use Rattle.std.specs.Prelude.{List, ◌↔◌, ℕ}
use Rattle.std.proofs.Math.Logic.Iff
use Rattle.field.specs.Map.{On}
use Rattle.field.specs.Distances.{Way, Distances, DistanceSheet, Assured}
use Rattle.field.specs.Workings.Sheet.{Marked, Draws}
pub use Rattle.field.specs.Workings.Sheet.{marked_draws}
use Rattle.field.proofs.Workings.DistanceLaws.{distances_look, distance_sheet_looks}
use Rattle.field.proofs.Workings.AssuredLaws.{assured_looks}

module _ {w h : ℕ} {C : ℕ → ℕ → Type 0} {s : List ℕ} (D : Draws w h C s) where
  pub distances_drawn : {x y : ℕ} {four : List ℕ} → On w h x y → (Distances (Marked s w h) x y four ↔ Distances C x y four)
  distances_drawn {x} {y} {four} o =
      Iff.trans (distances_look w h (Marked s w h) s (marked_draws w h s) x y four o) (Iff.symm (distances_look w h C s D x y four o))

  pub distance_sheet_drawn : {t : Way} {m : List ℕ} → (DistanceSheet w h (Marked s w h) t m ↔ DistanceSheet w h C t m)
  distance_sheet_drawn {t} {m} =
      Iff.trans (distance_sheet_looks w h (Marked s w h) s (marked_draws w h s) t m) (Iff.symm (distance_sheet_looks w h C s D t m))

  pub assured_drawn : {hx hy x y : ℕ} → (Assured w h (Marked s w h) hx hy x y ↔ Assured w h C hx hy x y)
  assured_drawn {hx} {hy} {x} {y} =
      Iff.trans (assured_looks w h (Marked s w h) s (marked_draws w h s) hx hy x y) (Iff.symm (assured_looks w h C s D hx hy x y))
