-- Counting on: what is counted so far and what comes next are small enough for 64 bits, and make
-- what is counted then. A map has no more crossings than the limits allow, and each of the four
-- numbers is at most that many.
use mathlib.Core.Path.{◌≡◌, sym, ap, ◌∙◌}
use mathlib.Core.Bool.{Bool, ◌&&◌}
use mathlib.Core.List.{List}
use Prim.Native.Nat.{ℕ, ◌+◌, ◌*◌, ◌<◌, ◌≤◌}
use native.Mathlib.Omega.{arith}
use native.Mathlib.Nat.{mul-le-mul_right}
use lib.Dec.{ltb, eqb}
use lib.ListN.{get_or}
use Rattle.field.specs.declared.Placing.{Placing}
use Rattle.field.specs.Depots.{four}
use Rattle.field.specs.Map.{Sides, number, at}
use Rattle.field.specs.Limits.{side_is, crossing_slots, crossings_few}
use Rattle.field.specs.Workings.Looking.{axis_of}
use Rattle.field.specs.Workings.Placing.{adds, plus, total_to, AtMost, Fitting}
use Rattle.field.proofs.Workings.Placing.{total_none, total_next, adds_most, total_most}
use Rattle.placing.specs.Counting.{adds_at, row_of, row_at}

-- What a crossing adds, from what stands there; i is its number.
pub adds_here : (s g : List ℕ) (w : ℕ) (level : Bool) (east west dx y x : ℕ) {q : Placing} {i : ℕ} {t : Bool}
    → q ≡ adds (eqb (get_or s i 0) 0) t (ltb 0 (get_or g i 0)) → i ≡ number w x y → t ≡ (level && axis_of east west dx x)
    → q ≡ adds_at s g w level east west dx y x
unfolding adds_at
adds_here s g w level east west dx y x e a b = rw (a, b) at e

-- What a row adds, from its test.
pub row_here : (s g : List ℕ) (w : ℕ) (four : List ℕ) (dx dy y : ℕ) {q : Placing} {t : Bool} → q ≡ row_of s g w t (get_or four 0 0) (get_or four 2 0) dx y w
    → t ≡ axis_of (get_or four 3 0) (get_or four 1 0) dy y → q ≡ row_at s g w four dx dy y
unfolding row_at
row_here s g w four dx dy y e a = rw a at e

pub adds_few : (s g : List ℕ) (w : ℕ) (level : Bool) (east west dx y x : ℕ) → AtMost 1 (adds_at s g w level east west dx y x)
unfolding adds_at
adds_few s g w level east west dx y x = adds_most (eqb (at s w x y) 0) (level && axis_of east west dx x) (ltb 0 (at g w x y))

pub row_at_few : (s g : List ℕ) (w : ℕ) (four : List ℕ) (dx dy y : ℕ) → AtMost (w * 1) (row_at s g w four dx dy y)
unfolding row_at
row_at_few s g w four dx dy y = total_most w 1 _ (adds_few s g w _ _ _ dx y)

-- Nothing is counted at the start.
pub total_start : {p : Placing} (f : ℕ → Placing) → (p.opens ≡ 0) × ((p.assured ≡ 0) × ((p.driven ≡ 0) × (p.stranded ≡ 0))) → p ≡ total_to 0 f
total_start {p} f z =
    ap (λ (n : ℕ). four n p.assured p.driven p.stranded) z.0
    ∙ ap (λ (n : ℕ). four 0 n p.driven p.stranded) z.1.0
    ∙ ap (λ (n : ℕ). four 0 0 n p.stranded) z.1.1.0
    ∙ ap (λ (n : ℕ). four 0 0 0 n) z.1.1.1
    ∙ sym (total_none f)

-- f tells what each of the m parts adds, k at most.
module _ (f : ℕ → Placing) {n : ℕ} {p q : Placing} (e : p ≡ total_to n f) (d : q ≡ f n) where
  pub total_again : {r : Placing} → r ≡ plus p q → r ≡ total_to (n + 1) f
  total_again t = t ∙ rw (e, d) (sym (total_next n f))

  pub total_fits : {m k : ℕ} → ((i : ℕ) → AtMost k (f i)) → n < m → m * k ≤ crossing_slots → Fitting (plus p q)
  total_fits {m} {k} l i s =
      let t = rw (total_next n f) at (total_most (n + 1) k f l) in
      let u : (n + 1) * k ≤ m * k = mul-le-mul_right {m = n + 1} {n = m} k (omega arith) in
      rw (e, d)
      (record {
        opens_fit = omega (arith, t.opens_most);
        assured_fit = omega (arith, t.assured_most);
        driven_fit = omega (arith, t.driven_most);
        stranded_fit = omega (arith, t.stranded_most);
      })

-- A row's crossings are few enough, and the map's are.
pub row_few : {w h : ℕ} → Sides w h → w * 1 ≤ crossing_slots
row_few s = omega (arith, side_is, s.most_w)

pub map_few : {w h : ℕ} → Sides w h → h * (w * 1) ≤ crossing_slots
map_few {w} {h} s = omega (arith, crossings_few s)
