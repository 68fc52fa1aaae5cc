-- `chart` meets its promise: a file that is too long is told so, and any other gets its text.
use Rattle.std.proofs.Common.{arith}
use Rattle.field.specs.Map.{side}
use Rattle.mapfile.specs.Following.{most_bytes}
use Rattle.chart.specs.Promise.{too_long}
use Rattle.printing.proofs.Putting.{put_told}
use Rattle.chart.proofs.chart.Goals as goal

pub returns-then-src-gt-MOST_BYTES : goal.returns-then-src-gt-MOST_BYTES
unfolding most_bytes
returns-then-src-gt-MOST_BYTES c =
    let p = c.put_long.ensures in
    let t = put_told p in
    record { text = (omega (arith, p.fits), too_long (omega arith) t.0); rest = t.1 }

pub put_file-requires : goal.put_file-requires
unfolding most_bytes side
put_file-requires c = record { limit = omega arith; room = omega arith }

pub returns : goal.returns
returns c =
    let p = c.put_file.ensures in
    let t = put_told p.put in
    record { text = (omega (arith, p.put.fits), rw t.0 p.right); rest = t.1 }
