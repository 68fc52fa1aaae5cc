-- The loop's invariant: the words whose turn is past are grown.
use Rattle.std.proofs.Common.{◌≡◌, ℕ, ◌<◌}
use Rattle.closing.specs.Growth.{turn_of, Sweeps}
use Rattle.closing.proofs.grow_words.Given as goal

abbrev pub invariant-loop-k : goal.invariant-loop-k
invariant-loop-k l = Sweeps (λ (b a : ℕ). (b ≡ l.y) × (a < l.n) × (turn_of l.back l.n a < l.k)) l.map.w l.map.h l.initial.c l.c l.d
