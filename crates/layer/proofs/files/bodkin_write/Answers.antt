-- `bodkin_write` keeps its promise: its own sheet has room for the largest map.
use Rattle.std.proofs.Common.{◌≤◌, sym, subst, arith, length-take-le}
use Rattle.field.specs.Limits.{most_crossings_is}
use Rattle.exchange.specs.Promise.{Area}
use Rattle.layer.proofs.files.bodkin_write.Goals as goal

pub slice_bounds-sheet-end : goal.slice_bounds-sheet-end
slice_bounds-sheet-end c = omega (arith, c.area-size.ensures.most, most_crossings_is)

pub slice_bounds-write_over-end : goal.slice_bounds-write_over-end
slice_bounds-write_over-end c =
    let few : c.area-size.result ≤ 65536 = omega (arith, c.area-size.ensures.most, most_crossings_is) in
    sym (length-take-le _ _ few)

pub write_over-requires : goal.write_over-requires
write_over-requires c =
    let few : c.area-size.result ≤ 65536 = omega (arith, c.area-size.ensures.most, most_crossings_is) in
    subst (Area c.args.lent.w c.args.lent.h) (sym (length-take-le _ _ few)) c.area-size.ensures
