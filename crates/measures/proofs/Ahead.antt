-- A crossing's distance from its neighbour's. What lies ahead of a crossing that way is what its
-- neighbour has, or nothing at the edge; so a closed crossing has 0, and an open one has one hop
-- more than its neighbour, or none where the neighbour has none.
use mathlib.Core.Path.{◌≡◌, refl, sym, subst}
use mathlib.Core.List.{List}
use mathlib.Core.Logic.{◌≢◌}
use Prim.Native.Nat.{ℕ, ◌+◌, ◌-◌, ◌<◌, ◌≤◌}
use native.Mathlib.Omega.{arith}
use Rattle.field.specs.Map.{side, no_distance, Sides, On, at}
use Rattle.field.specs.Distances.{Way, Along, Clear, at_closed, nearest, none}
use Rattle.field.specs.Workings.Sheet.{Marked}
use Rattle.field.proofs.Workings.ClearLaws.{no_distance_far, along_short}
use Rattle.distances.proofs.Ways.{along_start, along_join, along_rest}
use Rattle.distances.proofs.Looking.{Bare, bare_first, bare_met, bare_past}

-- A crossing's number r, from what the sheet has there, v, and from its neighbour's number that
-- way, which is the mark for none at the edge: 0 where the crossing is closed, none where the
-- neighbour has none, and else one more.
pub data Onward (v last r : ℕ) : Type 0 where
  closed : 0 < v → r ≡ 0 → Onward v last r
  lost : v ≡ 0 → last ≡ no_distance → r ≡ no_distance → Onward v last r
  further : v ≡ 0 → last ≢ no_distance → r ≡ last + 1 → Onward v last r

-- What lies ahead of (x, y) that way, itself left out: the nearest mark is m + 1 hops away, or
-- there is none and m is the mark for none.
pub data Ahead (s : List ℕ) (w h : ℕ) (t : Way) (x y m : ℕ) : Type 0 where
  met : (a b : ℕ) → Along t (m + 1) x y a b → Marked s w h a b
      → ((k c d : ℕ) → 0 < k → k < m + 1 → Along t k x y c d → ¬ Marked s w h c d) → Ahead s w h t x y m
  missed : ((k c d : ℕ) → 0 < k → Along t k x y c d → ¬ Marked s w h c d) → m ≡ no_distance → Ahead s w h t x y m

module _ {s : List ℕ} {w h : ℕ} {t : Way} {x y : ℕ} where
  -- Ahead of the edge there is nothing.
  pub ahead_edge : ((k a b : ℕ) → 0 < k → Along t k x y a b → ¬ On w h a b) → Ahead s w h t x y no_distance
  ahead_edge off = missed (λ k a b p l m. off k a b p l m.on) refl

  -- Elsewhere there is what the neighbour has.
  pub ahead_next : {m : ℕ} (a b : ℕ) → Along t 1 x y a b → Clear (Marked s w h) t a b m → Ahead s w h t x y m
  ahead_next {m} a b l (at_closed c e) =
      met a b (along_join t m x y a b a b l (along_start t m a b e)) c (λ k i j p q. absurd (omega arith))
  ahead_next {m} a b l (nearest i j f n c g) =
      met i j (along_join t m x y a b i j l n) c (λ k d e p q o. g (k - 1) d e (omega arith) (along_rest t k x y a b d e p l o))
  ahead_next a b l (none f g e) = missed (λ k c d p o. g (k - 1) c d (along_rest t k x y a b c d p l o)) e

  -- The number made of what the sheet has at (x, y) and of what lies ahead is then the distance of
  -- (x, y).
  pub onward_clear : {m r : ℕ} → Sides w h → On w h x y → Onward (at s w x y) m r → Ahead s w h t x y m → Clear (Marked s w h) t x y r
  onward_clear sides o (closed l e) f = at_closed (record { on = o; mark = l }) e
  onward_clear {m} sides o (lost z n e) (met a b l c f) =
      absurd (omega (arith, along_short t side w h (m + 1) x y a b sides.most_w sides.most_h o c.on l, no_distance_far))
  onward_clear sides o (lost z n e) (missed f q) = subst (Clear (Marked s w h) t x y) (sym e) (bare_past all far)
    where
      all : Bare s w h t x y side
      all = bare_first z (λ k a b p l. f k a b p)

      far : (i a b : ℕ) → side ≤ i → Along t i x y a b → ¬ On w h a b
      far i a b l k on = omega (arith, along_short t side w h i x y a b sides.most_w sides.most_h o on k)
  onward_clear {m} sides o (further z n e) (met a b l c f) =
      subst (Clear (Marked s w h) t x y) (sym e) (bare_met (bare_first z f) a b l refl c.on (omega (arith, c.mark)))
  onward_clear sides o (further z n e) (missed f q) = absurd (n q)
