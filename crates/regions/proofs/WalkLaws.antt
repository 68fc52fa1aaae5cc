-- How a pass walks over its rectangle: in a row column by column, and row by row, each farther from
-- the pass's end than the one before. A hop towards the end never leads farther from it, so what is
-- passed is settled for good.
use mathlib.Core.Path.{◌≡◌, refl, ap, ◌∙◌}
use mathlib.Core.Bool.{cond}
use mathlib.Core.List.{List}
use mathlib.Core.Logic.{◌⊎◌, inl, inr}
use Prim.Native.Nat.{ℕ, ◌+◌, ◌<◌, ◌≤◌}
use native.Mathlib.Omega.{arith}
use native.Mathlib.Decide.{dec_lt}
use lib.ListN.{get_or, set}
use Rattle.field.specs.Map.{On, number, at, gap}
use Rattle.field.proofs.Workings.GridLaws.{Toward, along_row, along_column}
use Rattle.regions.specs.Promise.{MayFind}
use Rattle.field.specs.declared.Place.{Place}
use Rattle.regions.specs.Passes.{OnWay, Along, InRow, Spanned, backed, Pass, Tells}
use Rattle.regions.proofs.WayLaws.{way_lt, way_one, back_nearer}
use Rattle.regions.proofs.PassLaws.{Follows, pass_none, pass_one, pass_over, pass_then}

-- The crossings of row y, from column ex to column fx, that are fewer than k hops from column ex.
pub record RowTo (ex fx k y a b : ℕ) : Type 0 where
  pub across : OnWay ex fx a
  pub behind : gap ex a < k
  pub row : b ≡ y

-- The rows of the rectangle that are fewer than k hops from row ey.
pub record RowsTo (ex ey fx fy k a b : ℕ) : Type 0 where
  pub across : OnWay ex fx a
  pub along : OnWay ey fy b
  pub behind : gap ey b < k

-- A hop towards an end brings neither offset up.
toward_le : {ex ey x y a b : ℕ} → Toward ex ey x y a b → (gap ex a ≤ gap ex x) × (gap ey b ≤ gap ey y)
toward_le {ex} {ey} (along_row n p q) = omega (arith, back_nearer n, ap (gap ex) p, ap (gap ey) q)
toward_le {ex} {ey} (along_column n p q) = omega (arith, back_nearer n, ap (gap ex) p, ap (gap ey) q)

module _ (w h ex ey fx : ℕ) where
  -- The place k hops on follows the columns nearer the end.
  one_follows : {x y k : ℕ} → Along ex fx k x → Follows ex ey (RowTo ex fx k y) (λ a b. (a ≡ x) × (b ≡ y)) (RowTo ex fx (k + 1) y)
  one_follows {x} {y} {k} s =
      record {
        apart = λ a b p q. omega (arith, p.behind, s.far, ap (gap ex) q.0);
        behind = λ a b c d p t q. omega (arith, p.behind, s.far, toward_le t, ap (gap ex) q.0);
        split = λ a b r. go a b r (dec_lt (gap ex a) k);
        first = λ a b p. record { across = p.across; behind = omega (arith, p.behind); row = p.row };
        second = λ a b q. record { across = rw q.0 s.way; behind = omega (arith, s.far, ap (gap ex) q.0); row = q.1 };
      }
    where
      go : (a b : ℕ) → RowTo ex fx (k + 1) y a b → Dec (gap ex a < k) → RowTo ex fx k y a b ⊎ ((a ≡ x) × (b ≡ y))
      go a b r (yes l) = inl (record { across = r.across; behind = l; row = r.row })
      go a b r (no l) = inr (way_one r.across s.way (omega (arith, r.behind, s.far)), r.row)

  pub row_start : (y : ℕ) (v : ℕ → ℕ → ℕ) (g : List ℕ) → Pass w h ex ey (RowTo ex fx 0 y) v g g
  row_start y v g = pass_none w h ex ey _ v g (λ a b p. omega (arith, p.behind))

  -- The place k hops on is on the map, and not passed yet; once it is settled one more is passed.
  module _ {x y k : ℕ} {v : ℕ → ℕ → ℕ} {g g₁ : List ℕ} (s : Along ex fx k x) (q : MayFind w h g ex ey fx y) (p : Pass w h ex ey (RowTo ex fx k y) v g g₁) where
    pub row_lent : MayFind w h g₁ ex ey x y
    row_lent =
        record {
          region = p.size ∙ q.region;
          from = q.from;
          to = record { in_x = way_lt s.way q.from.in_x q.to.in_x; in_y = q.to.in_y };
        }

    pub row_still : at g₁ w x y ≡ at g w x y
    row_still = p.other x y row_lent.to (λ r. omega (arith, r.behind, s.far))

    -- So the closure may be called with the mark there, and gives v's number.
    module _ {may : ℕ → Place → Type 0} {gives : ℕ → Place → ℕ → Type 0} (t : Tells may gives w h (InRow ex fx y) v g) {i : ℕ} (e : i ≡ number w x y) where
      pub row_may : may (get_or g₁ i 0) (record { x = x; y = y })
      row_may = rw (e, row_still) (t.called x y row_lent.to (record { across = s.way; row = refl }))

      pub row_gives : (u : ℕ) → gives (get_or g₁ i 0) (record { x = x; y = y }) u → u ≡ v x y
      row_gives u k = t.told x y u row_lent.to (record { across = s.way; row = refl }) (rw (e, row_still) at k)

    pub row_next : {g₂ : List ℕ} (u : ℕ) → u ≡ v x y → g₂ ≡ set g₁ (number w x y) (cond (backed g₁ w h ex ey x y) u 0)
        → Pass w h ex ey (RowTo ex fx (k + 1) y) v g g₂
    row_next {g₂} u f e = pass_then w h ex ey (one_follows s) p (pass_one w h ex ey v g₁ g₂ row_lent.region row_lent.to (rw (← f) e))

  pub row_end : {y k : ℕ} {v : ℕ → ℕ → ℕ} {g g₁ : List ℕ} → k ≡ gap ex fx + 1 → Pass w h ex ey (RowTo ex fx k y) v g g₁ → Pass w h ex ey (InRow ex fx y) v g g₁
  row_end i =
      pass_over w h ex ey (λ a b p. record { across = p.across; row = p.row })
      (λ a b p. record { across = p.across; behind = omega (arith, p.across.direct, i); row = p.row })

module _ (w h ex ey fx fy : ℕ) where
  -- The row k hops on follows the rows nearer the end.
  row_follows : {y k : ℕ} → Along ey fy k y → Follows ex ey (RowsTo ex ey fx fy k) (InRow ex fx y) (RowsTo ex ey fx fy (k + 1))
  row_follows {y} {k} s =
      record {
        apart = λ a b p q. omega (arith, p.behind, s.far, ap (gap ey) q.row);
        behind = λ a b c d p t q. omega (arith, p.behind, s.far, toward_le t, ap (gap ey) q.row);
        split = λ a b r. go a b r (dec_lt (gap ey b) k);
        first = λ a b p. record { across = p.across; along = p.along; behind = omega (arith, p.behind) };
        second = λ a b q. record { across = q.across; along = rw q.row s.way; behind = omega (arith, s.far, ap (gap ey) q.row) };
      }
    where
      go : (a b : ℕ) → RowsTo ex ey fx fy (k + 1) a b → Dec (gap ey b < k) → RowsTo ex ey fx fy k a b ⊎ InRow ex fx y a b
      go a b r (yes l) = inl (record { across = r.across; along = r.along; behind = l })
      go a b r (no l) = inr (record { across = r.across; row = way_one r.along s.way (omega (arith, r.behind, s.far)) })

  pub rows_start : (v : ℕ → ℕ → ℕ) (g : List ℕ) → Pass w h ex ey (RowsTo ex ey fx fy 0) v g g
  rows_start v g = pass_none w h ex ey _ v g (λ a b p. omega (arith, p.behind))

  -- The row k hops on is on the map, and its marks are still those of the first sheet; once it is
  -- passed one more row is.
  module _ {y k : ℕ} {v : ℕ → ℕ → ℕ} {g g₁ : List ℕ} (s : Along ey fy k y) (p : Pass w h ex ey (RowsTo ex ey fx fy k) v g g₁) where
    pub rows_lent : MayFind w h g ex ey fx fy → MayFind w h g₁ ex ey fx y
    rows_lent q =
        record {
          region = p.size ∙ q.region;
          from = q.from;
          to = record { in_x = q.to.in_x; in_y = way_lt s.way q.from.in_y q.to.in_y };
        }

    pub rows_told : {may : ℕ → Place → Type 0} {gives : ℕ → Place → ℕ → Type 0} → Tells may gives w h (Spanned ex ey fx fy) v g → Tells may gives w h (InRow ex fx y) v g₁
    rows_told {may} {gives} t =
        record {
          called = λ a b o q. rw (still a b o q) (t.called a b o (spanned q));
          told = λ a b u o q e. t.told a b u o (spanned q) (rw (still a b o q) at e);
        }
      where
        spanned : {a b : ℕ} → InRow ex fx y a b → Spanned ex ey fx fy a b
        spanned q = record { across = q.across; along = rw q.row s.way }

        still : (a b : ℕ) → On w h a b → InRow ex fx y a b → at g₁ w a b ≡ at g w a b
        still a b o q = p.other a b o (λ r. omega (arith, r.behind, s.far, ap (gap ey) q.row))

    pub rows_next : {g₂ : List ℕ} → Pass w h ex ey (InRow ex fx y) v g₁ g₂ → Pass w h ex ey (RowsTo ex ey fx fy (k + 1)) v g g₂
    rows_next = pass_then w h ex ey (row_follows s) p

  pub rows_end : {k : ℕ} {v : ℕ → ℕ → ℕ} {g g₁ : List ℕ} → k ≡ gap ey fy + 1 → Pass w h ex ey (RowsTo ex ey fx fy k) v g g₁ → Pass w h ex ey (Spanned ex ey fx fy) v g g₁
  rows_end i =
      pass_over w h ex ey (λ a b q. record { across = q.across; along = q.along })
      (λ a b q. record { across = q.across; along = q.along; behind = omega (arith, q.along.direct, i) })
