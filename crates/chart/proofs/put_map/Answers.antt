-- `put_map` meets its contract: the sheet is stamped and labelled, and the first line and the
-- picture follow each other in the output.
use Rattle.std.proofs.Common.{◌+◌, ◌*◌, ◌≤◌, length, arith}
use Rattle.printing.proofs.Putting.{part_put}
use Rattle.chart.specs.Promise.{line_room}
use Rattle.chart.proofs.Showing.{map_put}
use Rattle.turning.specs.Stamping.{turned_stamped, turned_draws}
use Rattle.chart.proofs.put_map.Goals as goal

pub label-found-requires : goal.label-found-requires
label-found-requires c = turned_stamped c.args.bits.now c.args.map.within c.requires.ones c.turn.ensures

pub returns : goal.returns
returns c =
    let map = c.args.map in
    let p = c.requires in
    let line = c.put_first-start in
    let rows = c.put_rows in
    let end = line.result + map.h * (map.w + 1) in
    let reach : line.result ≤ line_room = omega (arith, line.ensures.put.size, line.ensures.right.few) in
    let room : end ≤ length line.new.out = omega (arith, reach, p.room, line.auto.out) in
    let after : line.result ≤ end = omega arith in
    map_put c.label-found.ensures c.args.bits.now (turned_draws c.args.bits.now map.within p.ones c.turn.ensures) line.ensures rows.ensures
    (part_put line.new.out line.result end rows.new.out after room rows.auto.out)
