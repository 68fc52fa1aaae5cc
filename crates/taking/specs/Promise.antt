-- What the pass over a morning sheet promises, in the words of its meaning (document 02, Req 09).
use Rattle.std.specs.Prelude.{List, ℕ}
use Rattle.field.specs.Morning.{LabelBytes, NoneBetween}

-- The sheet by itself has no fault: "every byte is 0, 1 or 2", and "no crossing shown open has two
-- or more neighbours shown closed".
pub record Steady (w h : ℕ) (s : List ℕ) : Type 0 where
  pub bytes : LabelBytes s
  pub none_between : NoneBetween w h s
