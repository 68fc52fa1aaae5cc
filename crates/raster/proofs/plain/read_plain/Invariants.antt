-- `read_plain` meets its contract: the loop keeps ReadingPlain, and each return is a fault at the
-- byte just met or the end of the bytes.
use Rattle.raster.proofs.ReadingPlain.{ReadingPlain}
use Rattle.raster.proofs.plain.read_plain.Given as goal

abbrev pub invariant-loop-b : goal.invariant-loop-b
invariant-loop-b l = ReadingPlain l.fn.map.w l.fn.map.h l.body l.initial.bits l.bits l.digits l.rocks l.b-index
