-- What the running numbers mean: on either kind of line each number comes of the one before it and
-- of the crossing's own mark as a distance does, so every sheet holds its way's distances.
use mathlib.Core.Path.{◌≡◌, refl, subst, ◌∙◌}
use Rattle.measures.specs.declared.each.End.{End}
use mathlib.Core.List.{List}
use Prim.Native.Nat.{ℕ, suc, zero, ◌*◌, ◌<◌}
use lib.ListN.{length}
use native.Mathlib.Omega.{arith}
use native.Mathlib.Decide.{ℕ_discrete}
use borrow.Author.Tests.{eq-eqb, ne_eqb}
use Rattle.field.specs.Map.{Sides, no_distance, On, number, at}
use Rattle.field.specs.Limits.{no_distance_is}
use Rattle.field.specs.Distances.{Clear, DistanceSheet}
use Rattle.field.specs.Workings.Sheet.{Marked, number_lt}
use Rattle.measures.specs.Running.{nth, row_way, column_way, lead, onward, OwnOf, Owned, RowsRun, ColumnsRun}
use Rattle.measures.proofs.Ahead.{Onward, closed, lost, further}
use Rattle.measures.proofs.Lines.{line_clear, row_line, column_line, nth_nth, nth_lt}

-- What was none stays none: that is a distance's rule already.
own_onward : {m o r : ℕ} → OwnOf m o → r ≡ o → Onward m no_distance r
own_onward {m} {o} {r} own e = go (ℕ_discrete m 0)
  where
    go : Dec (m ≡ 0) → Onward m no_distance r
    go (no n) = closed (omega arith) (e ∙ own.closed n)
    go (yes z) = lost z refl (e ∙ own.free z)

onward_onward : {m o l r : ℕ} → OwnOf m o → r ≡ onward l o → Onward m l r
unfolding onward
onward_onward {m} {o} {l} {r} own e = go (ℕ_discrete m 0) (ℕ_discrete l no_distance)
  where
    go : Dec (m ≡ 0) → Dec (l ≡ no_distance) → Onward m l r
    go (no n) d = closed (omega arith) (rw (eq-eqb o 0 (own.closed n)) at e)
    go (yes z) (yes p) = lost z p (rw (ne_eqb o 0 (some z), eq-eqb l no_distance p) at e)
      where
        some : m ≡ 0 → o ≡ 0 → ⊥
        some z q = omega (arith, own.free z, no_distance_is)
    go (yes z) (no n) = further z n (rw (ne_eqb o 0 (some z), ne_eqb l no_distance n) at e)
      where
        some : m ≡ 0 → o ≡ 0 → ⊥
        some z q = omega (arith, own.free z, no_distance_is)

module _ {w h : ℕ} {s u : List ℕ} (sides : Sides w h) (size : length s ≡ h * w) (own : Owned s u) where
  -- What a crossing of the map has by itself.
  own_at : (a b : ℕ) → On w h a b → OwnOf (at s w a b) (at u w a b)
  own_at a b o = own.each (number w a b) (omega (arith, number_lt w h a b o, size))

  -- The rows' distances, from either end.
  module _ {e : End} {v : List ℕ} (ran : RowsRun w h e u v) (y : ℕ) (in_y : y < h) where
    abbrev found : ℕ → ℕ
    found k = at v w (nth e w k) y

    steps : (k : ℕ) → k < w → Onward (at s w (nth e w k) y) (lead found k) (found k)
    steps k l = onward_onward (own_at (nth e w k) y (record { in_x = nth_lt e w k l; in_y = in_y })) ((ran.ran y in_y).made k l)

    row_clear : (x : ℕ) → x < w → Clear (Marked s w h) (row_way e) x y (at v w x y)
    row_clear x l =
        subst (λ (a : ℕ). Clear (Marked s w h) (row_way e) a y (at v w a y)) (nth_nth e w x l)
        (line_clear sides (row_line e w h y in_y) found steps (nth e w x) (nth_lt e w x l))

  pub rows_distances : {e : End} {v : List ℕ} → RowsRun w h e u v → DistanceSheet w h (Marked s w h) (row_way e) v
  rows_distances ran =
      record { size = ran.size ∙ own.size ∙ size; distance = λ x y o. row_clear ran y o.in_y x o.in_x }

  -- The columns' distances.
  module _ {e : End} {v : List ℕ} (ran : ColumnsRun w h e u v) (x : ℕ) (in_x : x < w) where
    abbrev made : ℕ → ℕ
    made k = at v w x (nth e h k)

    there : (k : ℕ) → k < h → On w h x (nth e h k)
    there k l = record { in_x = in_x; in_y = nth_lt e h k l }

    falls : (k : ℕ) → k < h → Onward (at s w x (nth e h k)) (lead made k) (made k)
    falls zero l = own_onward (own_at x (nth e h 0) (there 0 l)) (ran.edge x in_x)
    falls (suc k) l = onward_onward (own_at x (nth e h (suc k)) (there (suc k) l)) (ran.ran x k in_x l)

    column_clear : (y : ℕ) → y < h → Clear (Marked s w h) (column_way e) x y (at v w x y)
    column_clear y l =
        subst (λ (b : ℕ). Clear (Marked s w h) (column_way e) x b (at v w x b)) (nth_nth e h y l)
        (line_clear sides (column_line e w h x in_x) made falls (nth e h y) (nth_lt e h y l))

  pub columns_distances : {e : End} {v : List ℕ} → ColumnsRun w h e u v → DistanceSheet w h (Marked s w h) (column_way e) v
  columns_distances ran =
      record { size = ran.size ∙ own.size ∙ size; distance = λ x y o. column_clear ran x o.in_x y o.in_y }
