-- Raster row r is row h - (r + 1) of the map, which the sheet has whole. A slip in the row's number
-- is refused by what is written, not here.
use Rattle.std.proofs.Common.{arith}
use Rattle.packing.specs.PackingLaws.{row_ends}
use Rattle.packing.proofs.fn.write_rows.put.Goals as goal

pub write_row-requires : goal.write_row-requires
write_row-requires c = record { whole = row_ends _ c.captures.s-map-h _ _ (omega arith) (omega arith); room = omega arith }
