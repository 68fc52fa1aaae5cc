-- `read_rows` meets its contract: the loop keeps AfterRows, and each turn passes one row more.
use Rattle.raster.proofs.ReadingRows.{AfterRows}
use Rattle.raster.proofs.raw.read_rows.Given as goal

abbrev pub invariant-loop-k : goal.invariant-loop-k
invariant-loop-k l = AfterRows l.map.w l.map.h l.body l.initial.bits l.bits l.rocks l.k
