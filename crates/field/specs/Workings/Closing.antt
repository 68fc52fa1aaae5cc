-- Working: the closed crossings, by sweeps over a sheet of the rocks until a sweep adds no mark.
use Rattle.std.specs.Prelude.{cond, ◌||◌, ltb, leb}
use mathlib.Core.List.{List}
use Prim.Native.Nat.{ℕ, zero, suc, ◌*◌}
use Rattle.std.proofs.Math.Dec.{eqb}
use Rattle.field.specs.Workings.Tests.{bit}
use Rattle.field.specs.Workings.Sheet.{lit, around, sheet}
unfoldable pub use Rattle.field.specs.Workings.MarkCount.{marks}

-- What one sweep makes of (x, y): all crossings are judged together on the state before it, and one
-- with two or more marked neighbours is marked.
unfoldable pub next : List ℕ → ℕ → ℕ → ℕ → ℕ → ℕ
next s w h x y = bit (ltb 0 (lit s w h x y) || leb 2 (around s w h x y))

unfoldable pub sweep : ℕ → ℕ → List ℕ → List ℕ
sweep w h s = sheet w h (next s w h)

-- Sweep after sweep, at most n, until one adds no mark.
unfoldable pub until : ℕ → ℕ → ℕ → List ℕ → List ℕ
until w h zero s = s
until w h (suc n) s =
    let t = sweep w h s in
    let r = until w h n t in
    cond (eqb (marks t) (marks s)) s r

-- The sheet of the closed crossings, from one of the rocks.
unfoldable pub closing : ℕ → ℕ → List ℕ → List ℕ
closing w h rocks = until w h (h * w) (sheet w h (lit rocks w h))
