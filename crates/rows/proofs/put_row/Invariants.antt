-- The loop's invariant: the words passed have their labels.
use Rattle.std.proofs.Common.{◌≡◌, ℕ, ◌<◌}
use Rattle.rows.specs.Sheets.{Wrote}
use Rattle.rows.proofs.put_row.Given as goal

abbrev pub invariant-loop-j : goal.invariant-loop-j
invariant-loop-j l = Wrote (λ (b a : ℕ). (b ≡ l.y) × (a < l.j)) l.p.map.w l.p.map.h l.p.rock.now l.p.closed.now l.initial.s l.s
