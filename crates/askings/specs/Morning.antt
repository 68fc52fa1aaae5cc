-- The hop by a morning sheet (document 02, Req 09), once the sheet is held against the list: it is
-- looked at by itself, and the hop is answered over what it shows closed.
use Rattle.std.specs.Prelude.{List, ◌∷◌, ℕ, Result}
use Rattle.field.specs.declared.Hops.{Hops}
use Rattle.field.specs.declared.refusals.Refusal.{Refusal}
use Rattle.field.specs.Map.{On}
use Rattle.field.specs.Refusals.{sheet_not_taken}
use Rattle.field.specs.Hops.{Answers}
use Rattle.field.specs.Morning.{ShownClosed}
use Rattle.taking.specs.Promise.{Steady}
use Rattle.calls.specs.Rules.{rule, hop_rows}
use Rattle.calls.specs.Told.{hops_named}
use Rattle.askings.specs.Promise.{Asked}

-- What is asked: the places are on the map.
pub record MayHopBy (w h hx hy x y : ℕ) : Type 0 where
  pub home : On w h hx hy
  pub on : On w h x y

abbrev pub HopByRest : ℕ → ℕ → ℕ → ℕ → ℕ → ℕ → List ℕ → Result Hops Refusal → Type 0
HopByRest w h hx hy x y s =
    Asked (rule sheet_not_taken (¬ Steady w h s) ∷ hop_rows w h (ShownClosed w h s) hx hy x y)
    (λ a. Answers w h (ShownClosed w h s) hx hy x y (hops_named a))
