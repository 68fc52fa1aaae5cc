-- Two markers on one crossing, told by counting marks. Stamped one after the other, a marker on a
-- crossing that bears no mark yet makes one mark more, and a marker on a marked crossing makes
-- none. So there are as many marks as markers exactly where no two share a crossing.
use Rattle.std.specs.Prelude.{◌≡◌, refl, List, [], ◌∷◌, ◌⊎◌, ltb, length, get_or, set, replicate}
use Rattle.std.proofs.Common.{sym, ap, ◌∙◌, arith, add-one, lt-ltb, le-ltb}
use Rattle.std.proofs.Math.Path.{subst}
use Rattle.std.proofs.Math.Logic.{inl, inr}
use Prim.Native.Nat.{ℕ, zero, suc, ◌+◌, ◌*◌, ◌<◌, ◌≤◌}
use Rattle.std.proofs.Math.Decide.{dec_lt, ℕ_discrete}
use Rattle.std.proofs.lemmas.List.{length-replicate}
use Rattle.field.specs.declared.Marker.{Marker}
use Rattle.field.specs.Map.{On, number, at}
use Rattle.field.specs.Labels.{RockOn, Count}
use Rattle.field.specs.Workings.Tests.{bit}
use Rattle.field.specs.Workings.MarkCount.{marks, Among, marks_mono}
use Rattle.field.proofs.Workings.MarkTally.{count_sheet}
use Rattle.field.specs.Workings.Sheet.{number_lt, Crossing, crossing}
use Rattle.markers.specs.List.{slot}
use Rattle.markers.specs.Laws.Rocks.{Stands, Any}
use Rattle.markers.specs.Laws.Stamping.{Stamping, stamping_start, stamping_more}
use Rattle.calls.specs.Rules.{Shared}

-- A mark set where there is none is one mark more, and where there is one it is the same.
mark_new : (s : List ℕ) (i : ℕ) → i < length s → get_or s i 0 ≡ 0 → marks (set s i 1) ≡ marks s + 1
unfolding marks
mark_new [] i l e = absurd (omega arith)
mark_new (v ∷ vs) zero l e = let n : bit (ltb 0 v) ≡ 0 = simp (le-ltb 0 v (omega arith)) in omega arith
mark_new (v ∷ vs) (suc i) l e = omega (arith, mark_new vs i (omega arith) e)

mark_again : (s : List ℕ) (i : ℕ) → 0 < get_or s i 0 → marks (set s i 1) ≡ marks s
unfolding marks
mark_again [] i l = refl
mark_again (v ∷ vs) zero l = let n : bit (ltb 0 v) ≡ 1 = simp (lt-ltb 0 v l) in omega arith
mark_again (v ∷ vs) (suc i) l = omega (arith, mark_again vs i l)

zeros : ℕ → List ℕ
zeros n = replicate n 0

zeros_at : (n i : ℕ) → get_or (zeros n) i 0 ≡ 0
unfolding zeros
zeros_at zero i = refl
zeros_at (suc n) zero = refl
zeros_at (suc n) (suc i) = zeros_at n i

zeros_marks : (n : ℕ) → marks (zeros n) ≡ 0
unfolding marks zeros
zeros_marks zero = refl
zeros_marks (suc n) = omega (arith, zeros_marks n)

module _ (w h : ℕ) (list : List Marker) where
  pub x_of : ℕ → ℕ
  x_of k = (slot list k).x

  pub y_of : ℕ → ℕ
  y_of k = (slot list k).y

  -- The first k markers stand on the map.
  abbrev pub OnMap : ℕ → Type 0
  OnMap k = (j : ℕ) → j < k → On w h (slot list j).x (slot list j).y

  -- The sheet on which they are stamped.
  pub drawn : ℕ → List ℕ
  drawn zero = zeros (h * w)
  drawn (suc k) = set (drawn k) (number w (slot list k).x (slot list k).y) 1

  pub drawn_is : (k : ℕ) → OnMap k → Stamping w h x_of y_of (λ j. Unit {0}) k (drawn k)
  unfolding drawn zeros x_of y_of
  drawn_is zero on =
      stamping_start w h x_of y_of (λ j. Unit {0}) (drawn 0) (drawn 0) (length-replicate {A = ℕ} (h * w) 0) (record { size = refl; zeros = zeros_at (h * w) })
  drawn_is (suc k) on =
      subst (λ (n : ℕ). Stamping w h x_of y_of (λ j. Unit {0}) n (drawn (suc k))) (add-one k)
      (stamping_more {w = w} {h = h} {k = k} {x = x_of} {y = y_of} (on k (omega arith)) tt (drawn_is k (λ j l. on j (omega arith))))

  -- Its marks are the crossings on which they stand.
  pub drawn_stands : (k x y : ℕ) → OnMap k → Stands Any list k x y → 0 < at (drawn k) w x y
  unfolding x_of y_of
  drawn_stands k x y on t = rw (← t.x_is, ← t.y_is) ((drawn_is k on).complete t.place t.below tt)

  pub stands_drawn : (k x y : ℕ) → OnMap k → On w h x y → 0 < at (drawn k) w x y → Stands Any list k x y
  unfolding x_of y_of
  stands_drawn k x y on o m =
      let p = (drawn_is k on).sound x y o m in record { place = p.place; below = p.below; x_is = p.x_is; y_is = p.y_is; such = tt }

  -- No two of the first k markers stand on one crossing, and there are k marks; or two do, and
  -- there are fewer.
  abbrev pub Distinct : ℕ → Type 0
  Distinct k = (i j : ℕ) → i < j → j < k → (slot list i).x ≡ (slot list j).x → (slot list i).y ≡ (slot list j).y → ⊥

  abbrev pub MarksTold : ℕ → ℕ → Type 0
  MarksTold k n = ((n ≡ k) × Distinct k) ⊎ ((n < k) × Shared list k)

  -- The next marker's crossing is marked already: it shares it with the marker that is stamped
  -- there.
  told_again : (k : ℕ) → OnMap (suc k) → 0 < at (drawn k) w (slot list k).x (slot list k).y → marks (drawn k) ≤ k → MarksTold (suc k) (marks (drawn (suc k)))
  unfolding drawn x_of y_of
  told_again k on m n =
      let p = (drawn_is k (λ j l. on j (omega arith))).sound (slot list k).x (slot list k).y (on k (omega arith)) m in
      inr (
        omega (arith, mark_again (drawn k) (number w (slot list k).x (slot list k).y) m),
        record {
          j = p.place;
          k = k;
          j_below = omega (arith, p.below);
          k_below = omega arith;
          two = omega (arith, p.below);
          x = p.x_is;
          y = p.y_is;
        },
      )

  -- It is not marked: it makes one mark more.
  told_new : (k : ℕ) → OnMap (suc k) → at (drawn k) w (slot list k).x (slot list k).y ≡ 0 → MarksTold k (marks (drawn k)) → MarksTold (suc k) (marks (drawn (suc k)))
  unfolding drawn x_of y_of
  told_new k on m t = go t
    where
      s : Stamping w h x_of y_of (λ j. Unit {0}) k (drawn k)
      s = drawn_is k (λ j l. on j (omega arith))

      more : marks (drawn (suc k)) ≡ marks (drawn k) + 1
      more =
          mark_new (drawn k) (number w (slot list k).x (slot list k).y)
          (omega (arith, number_lt w h (slot list k).x (slot list k).y (on k (omega arith)), s.size)) m

      apart : Distinct k → (i j : ℕ) → i < j → j < suc k → (slot list i).x ≡ (slot list j).x → (slot list i).y ≡ (slot list j).y → Dec (j ≡ k) → ⊥
      apart d i j l b p q (no e) = d i j l (omega arith) p q
      apart d i j l b p q (yes e) =
          let u : (slot list i).x ≡ (slot list k).x = p ∙ ap (λ (n : ℕ). (slot list n).x) e in
          let v : (slot list i).y ≡ (slot list k).y = q ∙ ap (λ (n : ℕ). (slot list n).y) e in
          omega (arith, m, s.complete i (omega arith) tt, ap (λ (a : ℕ). at (drawn k) w a (slot list i).y) u, ap (λ (b : ℕ). at (drawn k) w (slot list k).x b) v)

      go : MarksTold k (marks (drawn k)) → MarksTold (suc k) (marks (drawn (suc k)))
      go (inl (n, d)) = inl (omega (arith, more), λ i j l b p q. apart d i j l b p q (ℕ_discrete j k))
      go (inr (n, t)) =
          inr (
            omega (arith, more),
            record {
              j = t.j;
              k = t.k;
              j_below = omega (arith, t.j_below);
              k_below = omega (arith, t.k_below);
              two = t.two;
              x = t.x;
              y = t.y;
            },
          )

  told_most : {k n : ℕ} → MarksTold k n → n ≤ k
  told_most (inl t) = omega (arith, t.0)
  told_most (inr t) = omega (arith, t.0)

  pub told : (k : ℕ) → OnMap k → MarksTold k (marks (drawn k))
  unfolding drawn
  told zero on = inl (zeros_marks (h * w), λ i j l b p q. omega arith)
  told (suc k) on = go (told k (λ j l. on j (omega arith))) (dec_lt 0 (at (drawn k) w (slot list k).x (slot list k).y))
    where
      go : MarksTold k (marks (drawn k)) → Dec (0 < at (drawn k) w (slot list k).x (slot list k).y) → MarksTold (suc k) (marks (drawn (suc k)))
      go t (yes m) = told_again k on m (told_most t)
      go t (no m) = told_new k on (omega arith) t

  pub distinct : {count : ℕ} → Distinct count → Shared list count → ⊥
  distinct d t = go (dec_lt t.j t.k)
    where
      go : Dec (t.j < t.k) → ⊥
      go (yes l) = d t.j t.k l t.k_below t.x t.y
      go (no l) = d t.k t.j (omega (arith, t.two)) t.j_below (sym t.x) (sym t.y)

-- A list with no two markers on one crossing has as many markers as there are crossings on which
-- they stand: it has as many as there are marks. So where every marker of one such list stands
-- where one of another does, it has no more of them.
module _ {w h : ℕ} where
  drawn_among : (list other : List Marker) (count more : ℕ) → OnMap w h list count → OnMap w h other more
      → ((x y : ℕ) → Stands Any list count x y → Stands Any other more x y) → Among (drawn w h list count) (drawn w h other more)
  drawn_among list other count more on on' f i l = at_crossing (crossing w h i (omega (arith, (drawn_is w h list count on).size)))
    where
      at_crossing : Crossing w h i → 0 < get_or (drawn w h list count) i 0 → 0 < get_or (drawn w h other more) i 0
      at_crossing c m =
          rw c.is at
          (drawn_stands w h other more c.x c.y on' (f c.x c.y (stands_drawn w h list count c.x c.y on c.on (rw c.is m))))

  drawn_apart : (list : List Marker) (count : ℕ) → OnMap w h list count → ¬ Shared list count → marks (drawn w h list count) ≡ count
  drawn_apart list count on n = go (told w h list count on)
    where
      go : MarksTold w h list count (marks (drawn w h list count)) → marks (drawn w h list count) ≡ count
      go (inl t) = t.0
      go (inr t) = absurd (n t.1)

  pub apart_fewer : {list other : List Marker} {count more : ℕ} → OnMap w h list count → OnMap w h other more
      → ((x y : ℕ) → Stands Any list count x y → Stands Any other more x y) → ¬ Shared list count → ¬ Shared other more → count ≤ more
  apart_fewer {list} {other} {count} {more} on on' f n n' =
      omega (
        arith,
        marks_mono (drawn w h list count) (drawn w h other more) ((drawn_is w h list count on).size ∙ sym (drawn_is w h other more on').size)
            (drawn_among list other count more on on' f),
        drawn_apart list count on n,
        drawn_apart other more on' n',
      )

  pub apart_counted : {list : List Marker} {count : ℕ} → OnMap w h list count → ¬ Shared list count
      → Count w h (RockOn (Stands Any list count) w h) count
  apart_counted {list} {count} on n =
      subst (Count w h (RockOn (Stands Any list count) w h)) (drawn_apart list count on n)
      (count_sheet {s = drawn w h list count} (drawn_is w h list count on).size
      (record {
        sound = λ x y m. record { on = m.on; stone = stands_drawn w h list count x y on m.on m.mark };
        complete = λ x y r. record { on = r.on; mark = drawn_stands w h list count x y on r.stone };
      }))
