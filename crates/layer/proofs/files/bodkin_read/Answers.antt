-- `bodkin_read` keeps its promise: there is room for the bits of the largest map, and what is put
-- are the map's markers.
use Rattle.std.proofs.Common.{arith}
use Rattle.field.specs.Limits.{most_crossings_is}
use Rattle.layer.specs.Reading.{may_put}
use Rattle.layer.proofs.Reading.{read_refused, read_taken}
use Rattle.layer.proofs.files.bodkin_read.Goals as goal

pub read_bits-requires : goal.read_bits-requires
read_bits-requires c = omega (arith, most_crossings_is)

pub returns-in_err-found : goal.returns-in_err-found
returns-in_err-found c = read_refused _ c.from_residual.result c.in_err-found.ensures c.from_residual.ensures

pub put-requires : goal.put-requires
put-requires c = may_put c.in_ok-found.found (omega (arith, most_crossings_is, c.read_bits.auto.bits)) c.in_ok-found.ensures

pub returns : goal.returns
returns c = read_taken c.in_ok-found.found c.in_ok-found.ensures c.put.ensures
