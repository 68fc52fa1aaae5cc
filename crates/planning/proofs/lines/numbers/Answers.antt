-- `numbers` meets its contract: a map has no more crossings than there is room to work in.
use Rattle.std.proofs.Common.{sym, ◌∙◌, arith, length-take-le}
use Rattle.field.specs.Limits.{crossings_few}
use Rattle.planning.proofs.lines.numbers.Goals as goal

pub slice_bounds-place-end : goal.slice_bounds-place-end
slice_bounds-place-end c = sym (length-take-le _ _ (omega (arith, crossings_few c.args.s.map.within, c.args.s.fits)))

pub place-requires : goal.place-requires
place-requires c = length-take-le _ _ (omega (arith, crossings_few c.args.s.map.within, c.args.s.fits)) ∙ c.args.s.fits
