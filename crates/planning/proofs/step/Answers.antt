-- `step` meets its contract: with no bytes at hand the sums are told or bytes are asked for; with
-- some, maps past the bound are refused, and else a map may follow.
use Rattle.std.proofs.Common.{ℕ, ◌≤◌, ◌≡◌, false, arith}
use Rattle.std.specs.Bool.{◌==◌}
use Rattle.std.proofs.lemmas.Grind.{common_steps}
use Rattle.planning.specs.Promise.{most_maps}
use Rattle.planning.proofs.Stepping.{maps_end}
use Rattle.planning.proofs.step.Goals as goal

-- Bytes are at hand where the test tells so.
some : {n : ℕ} → false ≡ (n == 0) → 1 ≤ n
some e = grind (arith, common_steps)

pub returns-then-run-eq-MOST_MAPS : goal.returns-then-run-eq-MOST_MAPS
unfolding most_maps
returns-then-run-eq-MOST_MAPS c =
    let a = c.args in
    maps_end a.run a.src.now a.ended (omega arith) (some c.if-is_empty.ensures) c.put_long.ensures

pub map_step-requires : goal.map_step-requires
unfolding most_maps
map_step-requires c =
    let p = c.requires in
    record { step = p; some = some c.if-is_empty.ensures; before = omega (arith, p.tally.few) }
