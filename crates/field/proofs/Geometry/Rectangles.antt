-- Every group is a full rectangle. A chain fills the rectangle between its ends, by induction on
-- the chain: where it goes on by one hop, the new row or column fills up from there, since each of
-- its crossings has one closed neighbour in the row or column before and one in its own. So the
-- group of (x, y) is the product of the run of closed crossings of its row and that of its column.
use Rattle.std.specs.Prelude.{◌≡◌, refl, ◌⊎◌, ◌↔◌, ℕ, ◌≤◌}
use Rattle.std.proofs.Common.{sym, inl, inr, arith}
use Rattle.std.proofs.Math.Decide.{ℕ_discrete}
use Rattle.field.specs.Map.{On, OnMap}
use Rattle.field.specs.Labels.{Stable}
use Rattle.field.specs.Groups.{Linked, here, step}
use Rattle.field.proofs.Workings.AxisLaws.{Step, up, down, step_turned, step_other}
use Rattle.field.proofs.Workings.GridLaws.{near_step, step_row, step_column}
use Rattle.field.specs.Geometry.Shapes.{Between, Filled, Within, Rectangle}
use Rattle.field.proofs.Geometry.Lines.{walk, Run, run, run_from, run_to}
use Rattle.field.proofs.Geometry.Links.{moved, Flipped, on_map_flipped, stable_flipped, linked_flipped}

module _ (w h : ℕ) (C : ℕ → ℕ → Type 0) (on : OnMap w h C) (st : Stable w h C) where
  -- Column q stands beside column p. Where p is closed from row b to row t, and q is closed at b, q
  -- is closed at t.
  column_fills : (p q b t : ℕ) → Step p q → ((v : ℕ) → Between b v t → C p v) → C q b → C q t
  column_fills p q b t s f c = walk (C q) b t c next
    where
      next : (u v : ℕ) → Step u v → Between b v t → C q u → C q v
      next u v s' l k =
          let o : On w h q v = record { in_x = (on q u k).in_x; in_y = (on p v (f v l)).in_y } in
          st q v p v q u o (step_row (step_turned s) v) (step_column (step_turned s') q) (λ e. step_other s (sym e.0)) (f v l) k

  -- A filled rectangle whose side goes on by one crossing is filled one column further.
  fills_east_west : (x y a b c : ℕ) → Step a c → Filled C x y a b → C c b → Filled C x y c b
  fills_east_west x y a b c s f k u v hu hv = go s (ℕ_discrete u c)
    where
      go : Step a c → Dec (u ≡ c) → C u v
      go s' (yes e) = moved C (sym e) refl (column_fills a c b v s' (λ v' l. f a v' (omega arith) (omega arith)) k)
      go (up e) (no n) = f u v (omega arith) hv
      go (down e) (no n) = f u v (omega arith) hv

module _ (w h : ℕ) (C : ℕ → ℕ → Type 0) (on : OnMap w h C) (st : Stable w h C) where
  -- The same, one row further.
  fills_north_south : (x y a b d : ℕ) → Step b d → Filled C x y a b → C a d → Filled C x y a d
  fills_north_south x y a b d s f k u v hu hv =
      fills_east_west h w (Flipped C) (on_map_flipped on) (stable_flipped st) y x b a d s (λ v' u' hv' hu'. f u' v' hu' hv') k v u hv hu

  -- And so by one hop any way.
  fills_on : (x y a b c d : ℕ) → (Step a c × (d ≡ b)) ⊎ ((c ≡ a) × Step b d) → Filled C x y a b → C c d → Filled C x y c d
  fills_on x y a b c d (inl s) f k u v hu hv = fills_east_west w h C on st x y a b c s.0 f (moved C refl s.1 k) u v hu (omega arith)
  fills_on x y a b c d (inr s) f k u v hu hv = fills_north_south x y a b d s.1 f (moved C s.0 refl k) u v (omega arith) hv

  -- Where a chain leads from (x, y) to (a, b), every crossing of the rectangle between them is in
  -- C.
  pub span : {x y a b : ℕ} → Linked C x y a b → Filled C x y a b
  span (here p q c) u v hu hv = moved C (omega arith) (omega arith) c
  span {x} {y} (step {a} {b} {c} {d} l n k) u v hu hv = fills_on x y a b c d (near_step n) (span l) k u v hu hv

  -- So its first row and its first column are.
  pub span_row : {x y a b : ℕ} → Linked C x y a b → (u : ℕ) → Between x u a → C u y
  span_row {x} {y} {a} {b} l u hu = span l u y hu (omega arith)

  pub span_column : {x y a b : ℕ} → Linked C x y a b → (v : ℕ) → Between y v b → C x v
  span_column {x} {y} {a} {b} l v hv = span l x v (omega arith) hv

-- A chain goes on along a row, or a column, of C.
linked_along_row : (C : ℕ → ℕ → Type 0) {x y a b : ℕ} → Linked C x y a b → (u : ℕ) → ((j : ℕ) → Between a j u → C j b) → Linked C x y u b
linked_along_row C {x} {y} {a} {b} l u f = walk (λ j. Linked C x y j b) a u l (λ i j s t m. step m (step_row s b) (f j t))

linked_along_column : (C : ℕ → ℕ → Type 0) {x y a b : ℕ} → Linked C x y a b → (v : ℕ) → ((j : ℕ) → Between b j v → C a j) → Linked C x y a v
linked_along_column C l v f = linked_flipped (linked_along_row (Flipped C) (linked_flipped l) v f)

module _ (w h : ℕ) (C : ℕ → ℕ → Type 0) (on : OnMap w h C) (st : Stable w h C) where
  module _ (x y : ℕ) (c : C x y) (row : Run (λ u. C u y) x) (column : Run (λ v. C x v) y) where
    -- The row and the column through (x, y) are closed as far as the group reaches.
    inside : (a b : ℕ) → Linked C x y a b → Within row.low row.high column.low column.high a b
    inside a b l =
        record {
          from_west = run_from row a (span_row w h C on st l);
          to_east = run_to row a (span_row w h C on st l);
          from_south = run_from column b (span_column w h C on st l);
          to_north = run_to column b (span_column w h C on st l);
        }

    -- From (x, y) along its row to (a, y), and on along that column, which lies in the rectangle
    -- between (a, y) and (x, b).
    reached : (a b : ℕ) → Within row.low row.high column.low column.high a b → Linked C x y a b
    reached a b t = linked_along_column C to_column b (span_column w h C on st across)
      where
        in_row : (u v : ℕ) → row.low ≤ u → u ≤ row.high → row.low ≤ v → v ≤ row.high → (j : ℕ) → Between u j v → C j y
        in_row u v k l m n j s = row.all j (omega arith) (omega arith)

        to_column : Linked C x y a y
        to_column = linked_along_row C (here refl refl c) a (in_row x a row.from_low row.to_high t.from_west t.to_east)

        back : Linked C a y x y
        back =
            linked_along_row C (here refl refl (row.all a t.from_west t.to_east)) x
            (in_row a x t.from_west t.to_east row.from_low row.to_high)

        across : Linked C a y x b
        across =
            linked_along_column C back b
            (λ j s. column.all j (omega (arith, column.from_low, t.from_south)) (omega (arith, column.to_high, t.to_north)))

    -- So the group of (x, y) is the product of the two runs.
    pub runs_rectangle : (a b : ℕ) → Linked C x y a b ↔ Within row.low row.high column.low column.high a b
    runs_rectangle a b = (inside a b, reached a b)

module _ (w h : ℕ) (C : ℕ → ℕ → Type 0) (on : OnMap w h C) (st : Stable w h C) (dec : (x y : ℕ) → Dec (C x y)) where
  pub group_rectangle : (x y : ℕ) → C x y → Rectangle C x y
  group_rectangle x y c =
      make (run (λ u. C u y) (λ u. dec u y) w x (λ u k. (on u y k).in_x) c) (run (λ v. C x v) (λ v. dec x v) h y (λ v k. (on x v k).in_y) c)
    where
      make : Run (λ u. C u y) x → Run (λ v. C x v) y → Rectangle C x y
      make row column =
          record {
            x₀ = row.low;
            x₁ = row.high;
            y₀ = column.low;
            y₁ = column.high;
            wide = omega (arith, row.from_low, row.to_high);
            high = omega (arith, column.from_low, column.to_high);
            exactly = runs_rectangle w h C on st x y c row column;
          }
