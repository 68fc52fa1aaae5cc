-- `header_cut` meets its contract: what is read of the bytes with the probe after them.
use native.Mathlib.Omega.{arith}
use Rattle.mapfile.specs.Following.{most_bytes}
use Rattle.following.proofs.Telling.{probe_told}
use Rattle.following.proofs.header_cut.Goals as goal

pub join-requires : goal.join-requires
unfolding most_bytes
join-requires c = omega (arith, c.requires.short)

pub returns : goal.returns
returns c =
    rw c.is_some.ensures (probe_told c.requires c.join.new.tried c.join.ensures _ c.header.auto.numbers c.header.result c.header.ensures)
