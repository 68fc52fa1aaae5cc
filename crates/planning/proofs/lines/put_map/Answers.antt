-- `put_map` meets its contract: a map has no more crossings than the sheet has room for, and its
-- lines are those of the sheet's marks.
use Rattle.std.proofs.Common.{sym, ◌∙◌, length-take-le}
use Rattle.field.specs.Limits.{crossings_few}
use Rattle.planning.specs.LineLaws.{lines_same, drawn_alike}
use Rattle.planning.proofs.lines.put_map.Goals as goal

pub slice_bounds-sheet-end : goal.slice_bounds-sheet-end
slice_bounds-sheet-end c = sym (length-take-le _ _ (crossings_few c.args.map.within))

pub label_bits-requires : goal.label_bits-requires
label_bits-requires c =
    let p = c.requires in
    record { turn = record { whole = p.whole; size = length-take-le _ _ (crossings_few c.args.map.within) }; ones = p.ones }

pub invariant_of-put_depots : goal.invariant_of-put_depots
invariant_of-put_depots c = record { fits = c.label_bits.auto.sheet ∙ length-take-le _ _ (crossings_few c.args.map.within) }

pub returns : goal.returns
returns c =
    let e = c.put_depots.ensures in
    record { piece = e.piece; right = lines_same (drawn_alike c.label_bits.ensures) e.right; put = e.put }
