-- `clear` meets its contract: the marker in the id's place bears it.
use Rattle.std.proofs.Common.{arith}
use Rattle.records.proofs.Seeking.{found}
use Rattle.records.proofs.clear.Goals as goal

pub clear_at-requires : goal.clear_at-requires
clear_at-requires c = record { below = (found _ c.requires.rising c.place_of-place.ensures c.requires.used).0; lent = c.requires.rising.lent }

pub returns : goal.returns
returns c =
    record {
      list = rw (found _ c.requires.rising c.place_of-place.ensures c.requires.used).1 at c.clear_at.ensures;
      counted = omega (arith, c.requires.used.below);
    }
