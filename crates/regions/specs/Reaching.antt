-- Promise of the pass from one end alone, over a sheet s that marks the closed crossings: it tells
-- of each crossing of the rectangle that (ex, ey) and (fx, fy) span whether it has a shortest drive
-- to (ex, ey).
use Rattle.std.specs.Prelude.{◌≡◌, List, ℕ, length}
use Rattle.field.specs.Map.{On, at}
use Rattle.field.specs.Drives.{HasDrive, InOut}
use Rattle.field.specs.Workings.Sheet.{Marked}
use Rattle.regions.specs.Passes.{Spanned}

-- In the rectangle 1 stands where there is such a drive and 0 where there is none, whatever stood
-- there before; no other crossing changes.
pub record Reached (w h : ℕ) (s : List ℕ) (ex ey fx fy : ℕ) (g g' : List ℕ) : Type 0 where
  pub size : length g' ≡ length g
  pub reached : (x y : ℕ) → On w h x y → Spanned ex ey fx fy x y → InOut (HasDrive w h (Marked s w h) x y ex ey) (at g' w x y)
  pub other : (x y : ℕ) → On w h x y → ¬ Spanned ex ey fx fy x y → at g' w x y ≡ at g w x y
