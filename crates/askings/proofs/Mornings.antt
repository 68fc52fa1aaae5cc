-- The hop by a morning sheet: where the sheet by itself has no fault, its marks are what it shows
-- closed, so each answer over the marks is that answer over what is shown closed.
use Rattle.std.proofs.Common.{List, inr, ℕ}
use Rattle.std.specs.Prelude.{Result}
use Rattle.field.specs.declared.Hops.{Hops}
use Rattle.field.specs.declared.refusals.Refusal.{Refusal}
use Rattle.field.specs.Labels.{Stable}
use Rattle.field.specs.Morning.{ShownClosed}
use Rattle.field.specs.Workings.Sheet.{Marked}
use Rattle.field.proofs.Workings.MorningLaws
use Rattle.field.proofs.Workings.SameLaws.{Alike, answers_same}
use Rattle.taking.specs.Promise.{Steady}
use Rattle.calls.specs.SameLaws.{hop_rows_same}
use Rattle.askings.specs.Promise.{HopAsked}
use Rattle.askings.specs.Morning.{HopByRest}
use Rattle.askings.proofs.Bridge.{asked_same}

module _ {w h : ℕ} {s : List ℕ} (k : Steady w h s) where
  alike : Alike (Marked s w h) (ShownClosed w h s)
  alike = MorningLaws.shown_alike w h s k.bytes

  -- No open crossing of the sheet has two or more marked neighbours.
  pub steady_stable : Stable w h (Marked s w h)
  steady_stable x y a b c d o n m t p q =
      (alike x y).1 (MorningLaws.shown_stable w h s k.bytes k.none_between x y a b c d o n m t ((alike a b).0 p) ((alike c d).0 q))

  -- The rows after 20.
  pub by_shown : {hx hy x y : ℕ} {r : Result Hops Refusal} → HopAsked w h (Marked s w h) hx hy x y r → HopByRest w h hx hy x y s r
  by_shown {hx} {hy} {x} {y} {r} e =
      let q : HopAsked w h (ShownClosed w h s) hx hy x y r = asked_same r (hop_rows_same w h alike) (λ a. answers_same w h alike) e in
      record { given = inr (λ f. f k, q.given); answer = q.answer }
