-- `search::first_open` meets its contract: it looks at each line, from the first on.
use Prim.Native.Nat.{◌+◌, ◌*◌}
use Rattle.std.proofs.Common.{rules, tests}
use Rattle.std.proofs.lemmas.Iterator.{first_from_Range}
use Rattle.meetings.specs.Search.{Bare}
use Rattle.meetings.proofs.SearchLaws.{first_bare}
use Rattle.meetings.proofs.search.first_open.Goals as goal

pub returns : goal.returns
returns c =
    let s = c.args.s.now in
    let l = c.args.line in
    first_bare _ _ _ _ _ _ _
    (first_from_Range _ _ _ _ (λ j. Bare s (l.first + j * c.args.across) l.step l.many) (λ j. Bare s (l.first + j * c.args.across) l.step l.many → ⊥) c.find.ensures.ran
    (λ x q k. search (rules, tests)) (λ x q k. (search rules, search (rules, tests))))
