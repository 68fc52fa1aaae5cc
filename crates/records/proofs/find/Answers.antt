-- `find` meets its contract: an id in use is that of the marker in its place.
use Rattle.std.proofs.lemmas.Bool.{eqb-true, eq-eqb}
use Rattle.records.proofs.Seeking.{found}
use Rattle.records.proofs.find.Goals as goal

pub returns-then-place-count : goal.returns-then-place-count
returns-then-place-count c =
    record {
      at = c.place_of-place.ensures;
      used = (
        λ e. record { place = c.place_of-place.result; below = c.if-place-count.true; is = eqb-true _ _ e },
        λ u. eq-eqb _ _ (found _ c.requires c.place_of-place.ensures u).1,
      );
    }
