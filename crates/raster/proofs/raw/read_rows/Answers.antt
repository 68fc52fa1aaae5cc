-- `read_rows` meets its contract: the loop keeps AfterRows, and each turn passes one row more.
use mathlib.Core.Path.{◌≡◌}
use mathlib.Core.List.{List}
use Prim.Native.Nat.{ℕ, ◌+◌, ◌*◌, ◌-◌, ◌<◌}
use lib.ListN.{length, take, drop}
use native.Mathlib.Omega.{arith}
use Rattle.field.specs.Map.{Sides}
use Rattle.mapfile.specs.Raster.{row_bytes}
use Rattle.raster.specs.RasterParts.{RowRead, MayReadRows}
use Rattle.raster.proofs.PackedRows.{row_taken}
use Rattle.raster.proofs.ReadingRows.{AfterRows, raster, rows_start, rows_few, rows_more, rows_end}
use Rattle.raster.proofs.raw.read_rows.Goals as goal

-- One row more.
rows_next : {w h k bytes rocks more : ℕ} {body out out' out'' : List ℕ} (s : Sides w h) (r : MayReadRows w h body out) → AfterRows w h body out out' rocks k → k < h
    → bytes ≡ row_bytes w → length out'' ≡ length out' → RowRead (take (length body - k * bytes) (drop (k * bytes) body)) w (k * w) out' out'' more
    → AfterRows w h body out out'' (rocks + more) (k + 1)
rows_next {k = k} s r a l e t m = rows_more s r a _ l t (row_taken (raster s r) k l e) m

pub loop-k-init : goal.loop-k-init
loop-k-init c = rows_start c.args.map.within c.requires

pub overflow_add-rocks : goal.overflow_add-rocks
overflow_add-rocks c =
    let s = c.args.map.within in
    omega (arith, rows_few s c.requires (rows_next s c.requires c.loop-k.invariant c.loop-k-test.true c.row_bytes-bytes.ensures c.read_row-rocks.auto.bits c.read_row-rocks.ensures))

pub loop-k-preserved : goal.loop-k-preserved
loop-k-preserved c =
    rows_next c.args.map.within c.requires c.loop-k.invariant c.loop-k-test.true c.row_bytes-bytes.ensures c.read_row-rocks.auto.bits c.read_row-rocks.ensures

pub returns : goal.returns
returns c = rows_end c.args.map.within c.requires c.loop-k.invariant c.loop-k-test.false
