-- `put_file` meets its contract: the reader refuses the file, and its number is told; or the map
-- that it finds is shown.
use Rattle.std.proofs.Common.{◌∙◌, arith, length-take-le}
use Rattle.field.specs.Limits.{crossings_few, most_crossings_is}
use Rattle.chart.proofs.Reading.{refusal_is, refusal_text, taken_turn, taken_ones, map_text, text_few}
use Rattle.chart.proofs.put_file.Goals as goal

pub read-requires : goal.read-requires
read-requires c = omega (arith, most_crossings_is)

pub put_map-requires : goal.put_map-requires
put_map-requires c =
    let taken = c.in-Ok.ensures in
    record {
      turn = taken_turn taken _ (length-take-le _ _ (crossings_few taken.map.sides));
      ones = taken_ones taken;
      room = text_few taken.map.sides c.requires.room;
    }

pub returns-in-Ok : goal.returns-in-Ok
returns-in-Ok c = map_text c.in-Ok.ensures c.requires.limit c.put_map.ensures

pub returns-in-Err : goal.returns-in-Err
returns-in-Err c = refusal_text c.requires.limit (refusal_is c.in-Err.ensures) (rw (c.from.ensures ∙ c.number.ensures) at c.put_refusal.ensures)
