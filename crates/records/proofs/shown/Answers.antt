-- `shown` meets its contract: it looks at each marker in use.
use Rattle.std.proofs.Common.{rules, tests}
use Rattle.std.proofs.lemmas.Iterator.{YieldsList-from_slice, cases_from_all}
use Rattle.std.proofs.lemmas.Iterator.Adapters.{serves_from_places}
use Rattle.field.specs.declared.Marker.{Marker}
use Rattle.records.specs.Steps.{Passes}
use Rattle.records.proofs.Showing.{used_on, all_pass}
use Rattle.records.proofs.shown.Goals as goal

pub all-requires-clause-callable : goal.all-requires-clause-callable
all-requires-clause-callable c =
    serves_from_places (YieldsList-from_slice _ c.iter.ensures.rest) (λ x q h. search rules) (λ x k l e. let h = used_on c.requires x.now k l e in search (rules, h))

pub returns : goal.returns
returns c =
    all_pass c.requires
    (cases_from_all _ _ _ (λ (m : Marker). Passes c.args.clearance c.args.s.map.w c.args.s.cells.now m) (λ (m : Marker). ¬ Passes c.args.clearance c.args.s.map.w c.args.s.cells.now m) c.all.ensures.ran
    (YieldsList-from_slice _ c.iter.ensures.rest) (λ x q k. search (rules, tests)) (λ x q k. search (rules, tests)))
