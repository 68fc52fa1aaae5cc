-- The running numbers of all columns at once, row after row: one row made of the row beside it, and
-- the rows made so far.
use mathlib.Core.Path.{◌≡◌, sym, subst, ap, ap₂, ◌∙◌}
use Rattle.measures.specs.declared.each.End.{End}
use mathlib.Core.List.{List}
use mathlib.Core.Logic.{◌≢◌}
use Prim.Native.Nat.{ℕ, suc, ◌+◌, ◌*◌, ◌-◌, ◌<◌, ◌≤◌}
use native.Mathlib.Omega.{arith}
use native.Mathlib.Decide.{ℕ_discrete}
use lib.ListN.{length, get_or, set, length-set}
use Rattle.field.specs.Map.{On, number, at}
use Rattle.field.proofs.Geometry.Links.{moved}
use Rattle.measures.specs.Running.{nth, Nth, onward, RowMade}
use Rattle.measures.proofs.Lines.{nth_lt, nth_one}
use Rattle.field.specs.Workings.Sheet.{number_lt}
use Rattle.field.proofs.Workings.GridLaws.{number_one}
use lib.Seq.{get_or-set_same, get_or-set_other}

-- A store at one crossing of a sheet of the map.
module _ {w h x y : ℕ} (u : List ℕ) (n : ℕ) (room : length u ≡ h * w) (o : On w h x y) where
  pub stored : at (set u (number w x y) n) w x y ≡ n
  stored = get_or-set_same u (number w x y) n 0 (omega (arith, number_lt w h x y o))

  pub stored_other : (a b : ℕ) → On w h a b → ¬ ((a ≡ x) × (b ≡ y)) → at (set u (number w x y) n) w a b ≡ at u w a b
  stored_other a b m d = get_or-set_other u (number w x y) (number w a b) n 0 (λ e. d (number_one o m e))

-- Row y, its first x crossings made.
pub record Making (w h y z : ℕ) (u v : List ℕ) (x : ℕ) : Type 0 where
  pub size : length v ≡ length u
  pub made : (a : ℕ) → a < x → at v w a y ≡ onward (at u w a z) (at u w a y)
  pub ahead : (a : ℕ) → x ≤ a → a < w → at v w a y ≡ at u w a y
  pub rest : (a b : ℕ) → On w h a b → b ≢ y → at v w a b ≡ at u w a b

making_more : {w h y z x q : ℕ} {u v : List ℕ} → length u ≡ h * w → On w h x y → z < h → y ≢ z → Making w h y z u v x
    → q ≡ onward (at v w x z) (at v w x y) → Making w h y z u (set v (number w x y) q) (x + 1)
making_more {w} {h} {y} {z} {x} {q} {u} {v} room o in_z d m e =
    record {
      size = simp length-set m.size;
      made = λ a l. go a l (ℕ_discrete a x);
      ahead = λ a l i. other a i (λ p. omega arith) ∙ m.ahead a (omega arith) i;
      rest = λ a b p f. stored_other v q (m.size ∙ room) o a b p (λ k. f k.1) ∙ m.rest a b p f;
    }
  where
    other : (a : ℕ) → a < w → a ≢ x → at (set v (number w x y) q) w a y ≡ at v w a y
    other a l n = stored_other v q (m.size ∙ room) o a y (record { in_x = l; in_y = o.in_y }) (λ k. n k.0)

    go : (a : ℕ) → a < x + 1 → Dec (a ≡ x) → at (set v (number w x y) q) w a y ≡ onward (at u w a z) (at u w a y)
    go a l (yes p) =
        subst (λ (a : ℕ). at (set v (number w x y) q) w a y ≡ onward (at u w a z) (at u w a y)) (sym p)
        (stored v q (m.size ∙ room) o
        ∙ e
        ∙ ap₂ onward (m.rest x z (record { in_x = o.in_x; in_y = in_z }) (λ k. d (sym k))) (m.ahead x (omega arith) o.in_x))
    go a l (no n) = other a (omega (arith, o.in_x)) n ∙ m.made a (omega arith)

-- The same, told of the indices of the store and of what is read.
pub making_at : {w h y z x i j q : ℕ} {u v : List ℕ} → length u ≡ h * w → On w h x y → z < h → y ≢ z → Making w h y z u v x
    → i ≡ number w x y → j ≡ number w x z → q ≡ onward (get_or v j 0) (get_or v i 0) → Making w h y z u (set v i q) (x + 1)
making_at {w} {h} {y} {z} {x} {i} {j} {q} {u} {v} room o in_z d m p n e =
    subst (λ (i : ℕ). Making w h y z u (set v i q) (x + 1)) (sym p)
    (making_more room o in_z d m (e ∙ ap₂ (λ (j i : ℕ). onward (get_or v j 0) (get_or v i 0)) n p))

-- The first k rows made, counted from the edge.
pub record RowsMade (w h : ℕ) (e : End) (u v : List ℕ) (k : ℕ) : Type 0 where
  pub size : length v ≡ length u
  pub edge : (x : ℕ) → x < w → at v w x (nth e h 0) ≡ at u w x (nth e h 0)
  pub ran : (x j : ℕ) → x < w → suc j < k → at v w x (nth e h (suc j)) ≡ onward (at v w x (nth e h j)) (at u w x (nth e h (suc j)))
  pub ahead : (x j : ℕ) → x < w → k ≤ j → j < h → at v w x (nth e h j) ≡ at u w x (nth e h j)

rows_made_more : {w h : ℕ} {e : End} {u v t : List ℕ} {k : ℕ} → 0 < k → k < h → RowsMade w h e u v k
    → RowMade w h (nth e h k) (nth e h (k - 1)) v t → RowsMade w h e u t (k + 1)
rows_made_more {w} {h} {e} {u} {v} {t} {k} some in-h p r =
    record {
      size = r.size ∙ p.size;
      edge = λ x l. other x 0 l (omega arith) (λ f. omega arith) ∙ p.edge x l;
      ran = λ x j l m. go x j l m (ℕ_discrete (suc j) k);
      ahead = λ x j l m i. other x j l i (λ f. omega arith) ∙ p.ahead x j l (omega arith) i;
    }
  where
    other : (x j : ℕ) → x < w → j < h → j ≢ k → at t w x (nth e h j) ≡ at v w x (nth e h j)
    other x j l i d = r.rest x (nth e h j) (record { in_x = l; in_y = nth_lt e h j i }) (λ f. d (nth_one e h j k i in-h f))

    new : (x j : ℕ) → x < w → suc j ≡ k → at t w x (nth e h k) ≡ onward (at t w x (nth e h j)) (at u w x (nth e h k))
    new x j l d =
        r.made x l
        ∙ ap₂ onward (ap (λ (i : ℕ). at v w x (nth e h i)) (before j d) ∙ sym (other x j l (omega arith) (λ f. omega arith)))
        (p.ahead x k l (omega arith) in-h)
      where
        before : (j : ℕ) → suc j ≡ k → k - 1 ≡ j
        before j d = omega arith

    go : (x j : ℕ) → x < w → suc j < k + 1 → Dec (suc j ≡ k)
        → at t w x (nth e h (suc j)) ≡ onward (at t w x (nth e h j)) (at u w x (nth e h (suc j)))
    go x j l m (yes d) =
        subst (λ (i : ℕ). at t w x (nth e h i) ≡ onward (at t w x (nth e h j)) (at u w x (nth e h i))) (sym d) (new x j l d)
    go x j l m (no d) =
        other x (suc j) l (omega arith) d
        ∙ p.ran x j l (omega arith)
        ∙ ap (λ (n : ℕ). onward n (at u w x (nth e h (suc j)))) (sym (other x j l (omega arith) (λ f. omega arith)))

-- The same, told of the rows that places k and k - 1 are; they are two.
pub rows_made_at : {w h : ℕ} {e : End} {u v t : List ℕ} {k y z : ℕ} → 0 < k → k < h → RowsMade w h e u v k → Nth e h k y → Nth e h (k - 1) z
    → RowMade w h y z v t → RowsMade w h e u t (k + 1)
rows_made_at {w} {h} {v = v} {t = t} some in-h p m n r = rows_made_more some in-h p (moved (λ y z. RowMade w h y z v t) m.is n.is r)
