-- `closing::close` meets its contract. At first every row is marked.
use Rattle.std.proofs.Common.{◌+◌, arith}
use Rattle.field.specs.Limits.{side_number}
use Rattle.rows.specs.Layout.{sides_h}
use Rattle.closing.proofs.Laws.Marks.{marks_start}
use Rattle.closing.proofs.close.Goals as goal

pub settle-requires : goal.settle-requires
settle-requires c =
    let p = sides_h c.args.map.within in
    record { rows = c.requires; marks = marks_start {n = side_number + 2} (omega (arith, p)) (omega (arith, p)) }
