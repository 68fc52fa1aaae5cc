-- Working: the number of sweeps that add a mark, from a sheet of the rocks.
use Rattle.std.specs.Prelude.{cond, List}
use Prim.Native.Nat.{ℕ, zero, suc, ◌*◌}
use Rattle.std.proofs.Math.Dec.{eqb}
use Rattle.field.specs.Workings.Sheet.{lit, sheet}
use Rattle.field.specs.Workings.MarkCount.{marks}
use Rattle.field.specs.Workings.Closing.{sweep}

-- Sweeps that add a mark, at most n, until one adds none.
unfoldable pub sweeps_from : ℕ → ℕ → ℕ → List ℕ → ℕ
sweeps_from w h zero s = 0
sweeps_from w h (suc n) s =
    let t = sweep w h s in
    let r = sweeps_from w h n t in
    cond (eqb (marks t) (marks s)) 0 (suc r)

-- The number of sweeps, from a sheet of the rocks.
unfoldable pub sweeps_of : ℕ → ℕ → List ℕ → ℕ
sweeps_of w h rocks = sweeps_from w h (h * w) (sheet w h (lit rocks w h))
