-- `sample` meets its contract: each kind has its own number at a place.
use Rattle.std.proofs.Common.{arith}
use Rattle.picturefile.specs.Working.{sample_of}
use Rattle.picturing.proofs.rasters.sample.Goals as goal

pub returns-in-OneByte : goal.returns-in-OneByte
unfolding sample_of
returns-in-OneByte c = rw c.in-OneByte.is c.renewed.ensures

pub returns-in-TwoBytes : goal.returns-in-TwoBytes
unfolding sample_of
returns-in-TwoBytes c = rw c.in-TwoBytes.is (omega (arith, c.from_be_bytes.ensures))
