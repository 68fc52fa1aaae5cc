-- The loop's invariant: the rows whose turn is past are looked at.
use Rattle.std.proofs.Common.{ℕ, ◌*◌, ◌<◌}
use Rattle.closing.specs.Growth.{turn_of}
use Rattle.closing.specs.Closes.{Looks}
use Rattle.closing.proofs.sweep.Given as goal

abbrev pub invariant-loop-k : goal.invariant-loop-k
invariant-loop-k l =
    Looks (λ (b a : ℕ). (b < l.map.h) × (turn_of l.back l.map.h b < l.k) × (64 * a < l.map.w)) l.map.w l.map.h l.initial.c l.initial.f l.c l.f l.d
