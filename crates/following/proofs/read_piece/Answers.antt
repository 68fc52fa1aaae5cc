-- `read_piece` meets its contract: the letters are there, or cannot come, or may still.
use Rattle.following.proofs.Telling.{letters_wait}
use Rattle.following.proofs.read_piece.Goals as goal

pub returns-then-letters_cut : goal.returns-then-letters_cut
returns-then-letters_cut c = letters_wait c.if-not-ended.true (c.letters_cut.ensures.0 c.if-letters_cut.true)
