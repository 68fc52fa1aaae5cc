-- `read_raster` meets its contract: it is cut short, or its own bytes are read.
use mathlib.Core.Path.{ap}
use Prim.Native.Nat.{ℕ, ◌*◌}
use native.Mathlib.Omega.{arith}
use Rattle.field.specs.Limits.{most_markers_is}
use Rattle.mapfile.specs.Limits.{rows_few}
use Rattle.following.proofs.Telling.{raster_end, raster_wait, sound, raster_many, raster_ends}
use Rattle.following.proofs.read_raster.Goals as goal

pub overflow_mul-size : goal.overflow_mul-size
overflow_mul-size c =
    record { fits = omega (arith, rows_few c.args.map.within, ap (λ (k : ℕ). c.args.map.h * k) c.row_bytes.ensures) }

pub returns-then-ended : goal.returns-then-ended
returns-then-ended c =
    raster_end c.args.map.within c.requires c.row_bytes.ensures c.if-ended.true c.if-src-at.true

pub returns-then-src-at : goal.returns-then-src-at
returns-then-src-at c =
    raster_wait c.args.map.within c.requires c.row_bytes.ensures c.if-ended.false c.if-src-at.true

pub returns-in_err-rocks : goal.returns-in_err-rocks
returns-in_err-rocks c =
    absurd (sound c.args.map.within c.requires c.row_bytes.ensures c.if-src-at.false c.in_err-rocks.ensures)

pub returns-then-rocks-gt-MOST_MARKERS : goal.returns-then-rocks-gt-MOST_MARKERS
returns-then-rocks-gt-MOST_MARKERS c =
    raster_many c.args.map.within c.requires c.row_bytes.ensures c.if-src-at.false c.in_ok-rocks.ensures (omega (arith, most_markers_is))

pub returns : goal.returns
returns c =
    raster_ends c.args.map.within c.requires c.row_bytes.ensures c.if-src-at.false c.in_ok-rocks.ensures (omega (arith, most_markers_is))
