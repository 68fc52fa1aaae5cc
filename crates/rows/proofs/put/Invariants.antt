-- The loop's invariant: the rows passed have their labels.
use Rattle.std.proofs.Common.{ℕ, ◌*◌, ◌<◌}
use Rattle.rows.specs.Sheets.{Wrote}
use Rattle.rows.proofs.put.Given as goal

abbrev pub invariant-loop-y : goal.invariant-loop-y
invariant-loop-y l = Wrote (λ (b a : ℕ). (b < l.y) × (64 * a < l.p.map.w)) l.p.map.w l.p.map.h l.p.rock.now l.p.closed.now l.initial.s l.s
