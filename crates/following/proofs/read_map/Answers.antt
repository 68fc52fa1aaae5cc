-- `read_map` meets its contract: no header, sides out of bounds, or what the raster tells, in that
-- order.
use Rattle.header.specs.Found.{head_found, head_missing}
use Rattle.following.proofs.Telling.{header_none, sides_bad}
use Rattle.following.proofs.read_map.Goals as goal

pub headless-requires : goal.headless-requires
headless-requires c =
    record {
      lettered = c.requires.lettered;
      none = header_none (head_missing c.args.src.now 2 c.header.new.numbers c.header.auto.numbers c.in_default.ensures);
    }

pub returns-in_default : goal.returns-in_default
returns-in_default c = c.headless.ensures _

pub returns-in_default-sized : goal.returns-in_default-sized
returns-in_default-sized c =
    sides_bad c.requires.lettered.letters (head_found c.header.auto.numbers c.in-Some.ensures).1 c.in_default-sized.ensures
