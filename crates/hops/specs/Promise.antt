-- The hop's promise, over a sheet that marks the closed crossings.
use Rattle.std.specs.Prelude.{List, ℕ}
use Rattle.field.specs.Labels.{Stable}
use Rattle.field.specs.Distances.{Assured}
use Rattle.field.specs.Hops.{HopAnswer}
use Rattle.field.specs.Workings.Sheet.{Marked}
use Rattle.field.specs.declared.Hops.{Hops}
use Rattle.calls.specs.Told.{hops_named}

-- Document 01's answer for each case of the enum, as the calls have it.
abbrev pub answered : Hops → HopAnswer
answered = hops_named

-- What a hop asks: no open crossing of the sheet has two or more closed neighbours, and home is
-- assured for the place.
pub record MayHop (w h : ℕ) (s : List ℕ) (hx hy x y : ℕ) : Type 0 where
  pub stable : Stable w h (Marked s w h)
  pub assured : Assured w h (Marked s w h) hx hy x y
