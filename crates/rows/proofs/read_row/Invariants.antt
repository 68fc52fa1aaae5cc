-- The loop's invariant: the words passed have the row's bytes as bits.
use Rattle.std.proofs.Common.{◌≡◌, length}
use Rattle.rows.specs.Sheets.{Before, Drawing}
use Rattle.rows.proofs.read_row.Given as goal

abbrev pub invariant-loop-j : goal.invariant-loop-j
invariant-loop-j l = (length l.c ≡ length l.initial.c) × Drawing (Before l.y l.j) l.s.map.w l.s.map.h l.s.cells.now l.c
