-- A sheet being stamped, marker by marker: its marks are the crossings of the markers passed that
-- count, each 1 however many stand there. The k-th marker stands on (x k, y k), however the list is
-- lent, and P tells whether it counts.
use Rattle.std.specs.Prelude.{◌≡◌, List, ℕ, suc, ◌+◌, ◌*◌, ◌<◌, ◌≤◌, length, get_or, set}
use Rattle.std.proofs.Common.{sym, ap, subst, ◌∙◌, arith, mul-le-mul_right, length-set, get_or-set_same, get_or-set_other}
use Rattle.std.proofs.Math.Decide.{dec_lt, ℕ_discrete}
use Rattle.field.specs.Map.{On, number, at}
use Rattle.field.specs.Workings.Sheet.{Marked, Draws, number_lt, sheet_same}
use Rattle.sheets.specs.Promise.{Wiped}

-- Two crossings of the map with one number are one crossing.
row_one : (w x y a b : ℕ) → x < w → y * w + x ≡ b * w + a → b ≤ y
row_one w x y a b l e = go (dec_lt y b)
  where
    go : Dec (y < b) → b ≤ y
    go (yes m) = absurd (omega (arith, mul-le-mul_right {m = suc y} {n = b} w m))
    go (no m) = omega arith

number_one : (w h x y a b : ℕ) → On w h x y → On w h a b → number w x y ≡ number w a b → (x ≡ a) × (y ≡ b)
number_one w h x y a b o q e = (omega (arith, ap (λ (i : ℕ). i * w) same), same)
  where
    same : y ≡ b
    same = omega (arith, row_one w x y a b o.in_x e, row_one w a b x y q.in_x (sym e))

-- One of the first k markers, one that counts, stands on (a, b).
pub record StandsBefore (x y : ℕ → ℕ) (P : ℕ → Type 0) (k a b : ℕ) : Type 0 where
  pub place : ℕ
  pub below : place < k
  pub x_is : x place ≡ a
  pub y_is : y place ≡ b
  pub counts : P place

pub record Stamping (w h : ℕ) (x y : ℕ → ℕ) (P : ℕ → Type 0) (k : ℕ) (sheet : List ℕ) : Type 0 where
  pub size : length sheet ≡ h * w
  pub ones : (i : ℕ) → get_or sheet i 0 ≤ 1
  pub sound : (a b : ℕ) → On w h a b → 0 < at sheet w a b → StandsBefore x y P k a b
  pub complete : (j : ℕ) → j < k → P j → 0 < at sheet w (x j) (y j)

pub stamping_start : (w h : ℕ) (x y : ℕ → ℕ) (P : ℕ → Type 0) (s t : List ℕ) → length s ≡ h * w → Wiped s t → Stamping w h x y P 0 t
stamping_start w h x y P s t l v =
    record {
      size = v.size ∙ l;
      ones = λ i. omega (arith, v.zeros i);
      sound = λ a b o m. absurd (omega (arith, m, v.zeros (number w a b)));
      complete = λ j m c. absurd (omega arith);
    }

-- A turn whose marker counts stamps its crossing.
pub stamping_more : {w h k : ℕ} {x y : ℕ → ℕ} {P : ℕ → Type 0} {sheet : List ℕ} → On w h (x k) (y k) → P k → Stamping w h x y P k sheet
    → Stamping w h x y P (k + 1) (set sheet (number w (x k) (y k)) 1)
stamping_more {w} {h} {k} {x} {y} {P} {sheet} o c s =
    record {
      size = length-set sheet n 1 ∙ s.size;
      ones = λ i. one i (ℕ_discrete i n);
      sound = λ a b q m. from a b q m (ℕ_discrete (number w a b) n);
      complete = λ j m d. stamped j m d (ℕ_discrete (number w (x j) (y j)) n);
    }
  where
    n : ℕ
    n = number w (x k) (y k)

    same : get_or (set sheet n 1) n 0 ≡ 1
    same = get_or-set_same sheet n 1 0 (omega (arith, number_lt w h (x k) (y k) o, s.size))

    one : (i : ℕ) → Dec (i ≡ n) → get_or (set sheet n 1) i 0 ≤ 1
    one i (yes e) = omega (arith, ap (λ (j : ℕ). get_or (set sheet n 1) j 0) e, same)
    one i (no e) = omega (arith, get_or-set_other sheet n i 1 0 e, s.ones i)

    from : (a b : ℕ) → On w h a b → 0 < at (set sheet n 1) w a b → Dec (number w a b ≡ n) → StandsBefore x y P (k + 1) a b
    from a b q m (yes e) =
        let f = number_one w h a b (x k) (y k) q o e in
        record { place = k; below = omega arith; x_is = sym f.0; y_is = sym f.1; counts = c }
    from a b q m (no e) =
        let f = s.sound a b q (omega (arith, m, get_or-set_other sheet n (number w a b) 1 0 e)) in
        record { place = f.place; below = omega (arith, f.below); x_is = f.x_is; y_is = f.y_is; counts = f.counts }

    stamped : (j : ℕ) → j < k + 1 → P j → Dec (number w (x j) (y j) ≡ n) → 0 < at (set sheet n 1) w (x j) (y j)
    stamped j m d (yes e) = omega (arith, ap (λ (i : ℕ). get_or (set sheet n 1) i 0) e, same)
    stamped j m d (no e) =
        omega (arith, get_or-set_other sheet n (number w (x j) (y j)) 1 0 e, s.complete j (before j m (ℕ_discrete j k) e) d)
      where
        before : (i : ℕ) → i < k + 1 → Dec (i ≡ k) → ¬ (number w (x i) (y i) ≡ n) → i < k
        before i l (yes d) f = absurd (f (ap (λ (t : ℕ). number w (x t) (y t)) d))
        before i l (no d) f = omega arith

-- And one whose marker does not count leaves the sheet.
pub stamping_past : {w h k : ℕ} {x y : ℕ → ℕ} {P : ℕ → Type 0} {sheet : List ℕ} → ¬ P k → Stamping w h x y P k sheet
    → Stamping w h x y P (k + 1) sheet
stamping_past {w} {h} {k} {x} {y} {P} {sheet} n s =
    record {
      size = s.size;
      ones = s.ones;
      sound = λ a b o m.
          let f = s.sound a b o m in
          record { place = f.place; below = omega (arith, f.below); x_is = f.x_is; y_is = f.y_is; counts = f.counts };
      complete = λ j m c. s.complete j (before j m c (ℕ_discrete j k)) c;
    }
  where
    before : (j : ℕ) → j < k + 1 → P j → Dec (j ≡ k) → j < k
    before j m c (yes e) = absurd (n (subst P e c))
    before j m c (no e) = omega arith

-- A sheet stamped with 0 and 1 is settled by its rocks: two that draw the same crossings are equal.
pub stamped_one : (w h : ℕ) (C : ℕ → ℕ → Type 0) {s t : List ℕ} → length s ≡ h * w → length t ≡ h * w → ((i : ℕ) → get_or s i 0 ≤ 1)
    → ((i : ℕ) → get_or t i 0 ≤ 1) → Draws w h C s → Draws w h C t → s ≡ t
stamped_one w h C {s} {t} p q a b d e = sheet_same w h s t p q (λ x y o. go x y o (dec_lt 0 (at s w x y)) (dec_lt 0 (at t w x y)))
  where
    over : (x y : ℕ) → Marked s w h x y → 0 < at t w x y
    over x y m = (e.complete x y (d.sound x y m)).mark

    back : (x y : ℕ) → Marked t w h x y → 0 < at s w x y
    back x y m = (d.complete x y (e.sound x y m)).mark

    go : (x y : ℕ) → On w h x y → Dec (0 < at s w x y) → Dec (0 < at t w x y) → at s w x y ≡ at t w x y
    go x y o (yes l) m = omega (arith, a (number w x y), b (number w x y), over x y (record { on = o; mark = l }))
    go x y o (no l) (yes m) = absurd (l (back x y (record { on = o; mark = m })))
    go x y o (no l) (no m) = omega arith
