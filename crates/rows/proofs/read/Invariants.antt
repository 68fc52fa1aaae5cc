-- The loop's invariant: the rows passed are read.
use Rattle.std.proofs.Common.{◌≡◌, ℕ, ◌<◌, length}
use Rattle.rows.specs.Sheets.{Drawing}
use Rattle.rows.proofs.read.Given as goal

abbrev pub invariant-loop-y : goal.invariant-loop-y
invariant-loop-y l = (length l.c ≡ length l.initial.c) × Drawing (λ (b a : ℕ). b < l.y) l.s.map.w l.s.map.h l.s.cells.now l.c
