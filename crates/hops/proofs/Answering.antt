-- The answer of the hop call. Its two tests tell the two hops that can be permitted, and where home
-- is assured and the place is not home one of them is, since no open crossing has two closed
-- neighbours.
use mathlib.Core.Path.{◌≡◌, ap₂, ◌∙◌, sym}
use mathlib.Core.Bool.{Bool}
use mathlib.Core.List.{List}
use Prim.Native.Nat.{ℕ}
use Rattle.field.specs.Map.{Sides}
use Rattle.field.specs.Hops.{HopAnswer, Answers}
use Rattle.field.specs.Workings.Sheet.{Marked}
use Rattle.field.proofs.Workings.Marks.{marked_dec}
use Rattle.field.specs.Workings.Looking.{hop_to, east_west_of, north_south_of, answer_of, hop_of}
use Rattle.field.proofs.Workings.AnswerLaws.{hop_looks}
use Rattle.field.proofs.Geometry.WayHome.{home_hop}
use Rattle.distances.specs.Drawn.{marked_draws}
use Rattle.hops.specs.Promise.{MayHop}

-- The answer made of the tests is the answer.
pub answers : {w h : ℕ} {s : List ℕ} {hx hy x y : ℕ} {d f : Bool} {r : HopAnswer} → Sides w h → MayHop w h s hx hy x y
    → east_west_of s w h hx x y ≡ d → north_south_of s w h hy x y ≡ f
    → r ≡ answer_of d f x y (hop_to x hx) (hop_to y hy) → Answers w h (Marked s w h) hx hy x y r
unfolding hop_of
answers {w} {h} {s} {hx} {hy} {x} {y} {d} {f} {r} sides m p q a =
    (hop_looks w h (Marked s w h) s (marked_draws w h s) hx hy x y
    (home_hop w h sides (Marked s w h) (λ a b k. k.on) m.stable (marked_dec s w h) hx hy m.assured) r).1
    (a ∙ ap₂ (λ (i j : Bool). answer_of i j x y (hop_to x hx) (hop_to y hy)) (sym p) (sym q))
