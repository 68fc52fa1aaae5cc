-- What the search finds, as the meaning says it. Columns from the west and rows from the south are
-- one thing: lines p between a and b, each with its places q between c and d, of which Q tells
-- those that are open.
use mathlib.Core.Path.{◌≡◌, refl, subst₂, ap}
use mathlib.Core.List.{List}
use mathlib.Core.Logic.{◌↔◌}
use Prim.Native.Nat.{ℕ, ◌+◌, ◌*◌, ◌-◌, ◌<◌, ◌≤◌}
use native.Mathlib.Omega.{arith}
use native.Mathlib.Decide.{dec_le}
use native.Mathlib.Nat.{add-mul}
use lib.ListN.{length, get_or}
use Rattle.std.specs.Prelude.{None}
use Rattle.field.specs.Map.{On, number}
use Rattle.field.specs.Labels.{Open}
use Rattle.field.specs.CrossingLines.{OpenColumn, OpenRow, Lines, HasLines}
use Rattle.field.specs.Workings.Sheet.{Marked, number_lt}
use Rattle.field.specs.Geometry.Shapes.{Between}
use Rattle.meetings.specs.declared.search.Span.{Span}
use Rattle.regions.specs.Promise.{Ends}
use Rattle.meetings.specs.Search.{SpanOf, Bare, LaidOut, FirstAt, FirstBare}

-- OpenLine p is open throughout.
abbrev OpenLine : ℕ → ℕ → ℕ → ℕ → (ℕ → ℕ → Type 0) → ℕ → Type 0
OpenLine a b c d Q p = Between a p b × ((q : ℕ) → Between c q d → Q p q)

module _ (s : List ℕ) (i across along : ℕ) {a b c d : ℕ} {u v : Span} (f : SpanOf a b u) (g : SpanOf c d v) (Q : ℕ → ℕ → Type 0)
    (tells : (j l : ℕ) → j < u.many → l < v.many → (get_or s (i + j * across + l * along) 0 ≡ 0 ↔ Q (u.low + j) (v.low + l))) where
  bare_line : (j : ℕ) → j < u.many → Bare s (i + j * across) along v.many → OpenLine a b c d Q (u.low + j)
  bare_line j m z = (omega (arith, f.low, f.many), λ q t. place q t)
    where
      place : (q : ℕ) → Between c q d → Q (u.low + j) q
      place q t =
          let l : q - v.low < v.many = omega (arith, g.low, g.many) in
          subst₂ Q refl (omega (arith, g.low)) ((tells j (q - v.low) m l).0 (z (q - v.low) l))

  line_bare : (j : ℕ) → j < u.many → OpenLine a b c d Q (u.low + j) → Bare s (i + j * across) along v.many
  line_bare j m t l k = (tells j l m k).1 (t.1 (v.low + l) (omega (arith, g.low, g.many)))

  -- The line found is open, and no open line comes before it.
  module _ {r : ℕ} (F : FirstAt s i across along u.many v.many r) where
    pub line_there : OpenLine a b c d Q (u.low + r)
    line_there = bare_line r F.below F.there

    pub line_first : (p : ℕ) → OpenLine a b c d Q p → u.low + r ≤ p
    line_first p t = go (dec_le (u.low + r) p)
      where
        go : Dec (u.low + r ≤ p) → u.low + r ≤ p
        go (yes l) = l
        go (no l) =
            let k : p - u.low < r = omega (arith, f.low, t.0) in
            let e : p ≡ u.low + (p - u.low) = omega (arith, f.low, t.0) in
            absurd (F.before (p - u.low) k (line_bare (p - u.low) (omega (arith, F.below)) (rw e at t)))

  -- Where none is found there is no open line.
  pub line_none : ((j : ℕ) → j < u.many → ¬ Bare s (i + j * across) along v.many) → (p : ℕ) → ¬ OpenLine a b c d Q p
  line_none F p t =
      let k : p - u.low < u.many = omega (arith, f.low, f.many, t.0) in
      let e : p ≡ u.low + (p - u.low) = omega (arith, f.low, t.0) in
      F (p - u.low) k (line_bare (p - u.low) k (rw e at t))

-- A crossing is open where the sheet has no mark.
unmarked_open : {w h x y n : ℕ} {s : List ℕ} → On w h x y → n ≡ number w x y → (get_or s n 0 ≡ 0 ↔ Open w h (Marked s w h) x y)
unmarked_open {w} {h} {x} {y} {n} {s} o e =
    let f : get_or s n 0 ≡ get_or s (number w x y) 0 = ap (λ (i : ℕ). get_or s i 0) e in
    (λ z. record { on = o; free = λ m. omega (arith, m.mark) }, λ k. let b : ¬ (0 < get_or s (number w x y) 0) = λ m. k.free (record { on = o; mark = m }) in omega arith)

-- The rectangle that s and d span.
module _ {w h sx sy dx dy : ℕ} (k : Ends w h sx sy dx dy) {x y : Span} (X : SpanOf sx dx x) (Y : SpanOf sy dy y) {i : ℕ} (e : i ≡ number w x.low y.low) where
  on_it : (j l : ℕ) → j < x.many → l < y.many → On w h (x.low + j) (y.low + l)
  on_it j l p q =
      record { in_x = omega (arith, X.low, X.many, k.from.in_x, k.to.in_x); in_y = omega (arith, Y.low, Y.many, k.from.in_y, k.to.in_y) }

  by_columns : (j l : ℕ) → i + j * 1 + l * w ≡ number w (x.low + j) (y.low + l)
  by_columns j l = omega (arith, add-mul y.low l w)

  by_rows : (j l : ℕ) → i + j * w + l * 1 ≡ number w (x.low + l) (y.low + j)
  by_rows j l = omega (arith, add-mul y.low j w)

  module _ (s : List ℕ) (size : length s ≡ h * w) where
    pub columns_laid : LaidOut s i 1 w x.many y.many
    columns_laid =
        record {
          some = omega (arith, Y.low, Y.many);
          inside = λ j p l q. omega (arith, by_columns j l, number_lt _ _ _ _ (on_it j l p q), size);
        }

    pub rows_laid : LaidOut s i w 1 y.many x.many
    rows_laid =
        record {
          some = omega (arith, X.low, X.many);
          inside = λ j p l q. omega (arith, by_rows j l, number_lt _ _ _ _ (on_it l j q p), size);
        }

    column_tells : (j l : ℕ) → j < x.many → l < y.many → (get_or s (i + j * 1 + l * w) 0 ≡ 0 ↔ Open w h (Marked s w h) (x.low + j) (y.low + l))
    column_tells j l p q = unmarked_open (on_it j l p q) (by_columns j l)

    row_tells : (j l : ℕ) → j < y.many → l < x.many → (get_or s (i + j * w + l * 1) 0 ≡ 0 ↔ Open w h (Marked s w h) (x.low + l) (y.low + j))
    row_tells j l p q = unmarked_open (on_it l j q p) (by_rows j l)

    module _ {r : ℕ} (F : FirstAt s i 1 w x.many y.many r) where
      column_there : OpenColumn w h (Marked s w h) sx sy dx dy (x.low + r)
      column_there = let t = line_there s i 1 w X Y (Open w h (Marked s w h)) column_tells F in record { between = t.0; throughout = t.1 }

      column_first : (p : ℕ) → OpenColumn w h (Marked s w h) sx sy dx dy p → x.low + r ≤ p
      column_first p t = line_first s i 1 w X Y (Open w h (Marked s w h)) column_tells F p (t.between, t.throughout)

    pub column_none : FirstBare s i 1 w x.many y.many None → ¬ HasLines w h (Marked s w h) sx sy dx dy
    column_none F t = line_none s i 1 w X Y (Open w h (Marked s w h)) column_tells F t.column (t.column_open.between, t.column_open.throughout)

    module _ {r : ℕ} (F : FirstAt s i w 1 y.many x.many r) where
      row_there : OpenRow w h (Marked s w h) sx sy dx dy (y.low + r)
      row_there = let t = line_there s i w 1 Y X (λ q p. Open w h (Marked s w h) p q) row_tells F in record { between = t.0; throughout = t.1 }

      row_first : (q : ℕ) → OpenRow w h (Marked s w h) sx sy dx dy q → y.low + r ≤ q
      row_first q t = line_first s i w 1 Y X (λ q p. Open w h (Marked s w h) p q) row_tells F q (t.between, t.throughout)

    pub row_none : FirstBare s i w 1 y.many x.many None → ¬ HasLines w h (Marked s w h) sx sy dx dy
    row_none F t = line_none s i w 1 Y X (λ q p. Open w h (Marked s w h) p q) row_tells F t.row (t.row_open.between, t.row_open.throughout)

    pub lines_met : {p q : ℕ} → FirstAt s i 1 w x.many y.many p → FirstAt s i w 1 y.many x.many q → Lines w h (Marked s w h) sx sy dx dy (x.low + p) (y.low + q)
    lines_met F G = record { column_open = column_there F; westmost = column_first F; row_open = row_there G; southmost = row_first G }
