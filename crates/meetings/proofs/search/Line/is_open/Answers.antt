-- `Line::is_open` meets its contract: it looks at each crossing of the line.
use mathlib.Core.Path.{◌≡◌}
use lib.ListN.{get_or}
use Prim.Native.Nat.{◌+◌, ◌*◌}
use Rattle.std.proofs.Common.{rules, tests, refl, arith}
use Rattle.std.proofs.lemmas.Iterator.{cases_from_all, YieldsList-from_range}
use Rattle.meetings.proofs.SearchLaws.{all_below}
use Rattle.meetings.proofs.search.Line.is_open.Goals as goal

pub returns : goal.returns
returns c =
    let s = c.args.s.now in
    let i = c.args.self.first in
    let t = c.args.self.step in
    all_below c.args.self.many (λ k. get_or s (i + k * t) 0 ≡ 0) (λ k. get_or s (i + k * t) 0 ≡ 0 → ⊥) (λ k n. n) _
    (cases_from_all _ _ _ (λ k. get_or s (i + k * t) 0 ≡ 0) (λ k. get_or s (i + k * t) 0 ≡ 0 → ⊥) c.all.ensures.ran (YieldsList-from_range 0 c.args.self.many c.args.self.many refl (omega arith)) (λ x q k. search (rules, tests)) (λ x q k. search (rules, tests)))
