-- `place` meets its promise: with the depot closed there is nothing to count, and else the pass and
-- the distances tell of each crossing what it adds.
use native.Mathlib.Omega.{arith}
use Rattle.placing.proofs.PlaceLaws.{places_all}
use Rattle.placing.proofs.place.Goals as goal

pub returns : goal.returns
returns c =
    places_all c.args.depot c.args.s.map.within c.corner-at.ensures.column c.corner-at.ensures.row _ c.at.ensures (omega arith)
    c.reach.ensures c.distances.ensures c.count.ensures
