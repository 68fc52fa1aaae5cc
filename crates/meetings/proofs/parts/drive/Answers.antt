-- `parts::drive` meets its contract: both parts have a drive and the route holds them, and the
-- second begins where the first ended.
use native.Mathlib.Omega.{arith}
use mathlib.Core.Path.{refl}
use lib.ListN.{length-take, length-drop}
use Rattle.meetings.proofs.ByWayLaws.{whole_drive, first_may, second_may, both_driven, both_rest}
use Rattle.meetings.proofs.parts.drive.Goals as goal

pub part-requires : goal.part-requires
part-requires c = first_may c.args.s.map.within c.requires

pub slice_bounds-part-count : goal.slice_bounds-part-count
slice_bounds-part-count c =
    omega (arith, c.distance-k.ensures.is, (first_may c.args.s.map.within c.requires).room)

pub slice_bounds-part-start : goal.slice_bounds-part-start
slice_bounds-part-start c =
    omega (arith, c.distance-k.ensures.is, (first_may c.args.s.map.within c.requires).room)

pub part-requires-2 : goal.part-requires-2
part-requires-2 c =
    let p = c.requires in
    second_may c.args.s.map.within p c.part.ensures c.part.auto.route
    (simp (length-take, length-drop) (omega (arith, c.distance-k.ensures.is, (first_may c.args.s.map.within p).room, c.part.auto.route)))

pub sure_region-requires-clause-some : goal.sure_region-requires-clause-some
sure_region-requires-clause-some c = let p = c.requires in whole_drive c.args.s.map.within p.may p.column p.row

pub returns : goal.returns
returns c =
    let p = c.requires in
    let m = c.args.s.map.within in
    record {
      sheet = c.sure_region.ensures;
      by = both_driven m p c.part.ensures c.part.auto.route c.distance-k.ensures.is refl c.part-2.ensures;
      rest = both_rest m p c.part.ensures c.part.auto.route c.distance-k.ensures.is refl c.part-2.ensures;
    }
