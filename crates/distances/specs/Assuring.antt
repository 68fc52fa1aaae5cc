-- Assurance from home's four distances: each axis passes its test exactly where the definition says
-- so, as home has one distance each way.
use Rattle.std.specs.Prelude.{◌≡◌, refl, Bool, true, false, List, [], ◌∷◌, ◌↔◌, ◌≢◌, ℕ, get_or}
use Rattle.std.proofs.Common.{sym, subst, ap, ◌∙◌, true≢false, arith}
use Rattle.std.proofs.lemmas.Bool.{false≢true}
use Rattle.field.specs.Map.{On, at}
use Rattle.field.specs.Labels.{Open}
use Rattle.field.specs.Distances.{Way, eastward, southward, westward, northward, Clear, Distances, Axis, Assured}
use Rattle.field.specs.Workings.Tests.{only}
use Rattle.field.specs.Workings.Sheet.{Marked}
use Rattle.field.specs.Workings.Looking.{axis_of}
use Rattle.field.proofs.Workings.ClearLaws.{clear_one}
use Rattle.field.proofs.Workings.AssuredLaws.{axis_looks}

-- The answer is no where the thing asked does not hold.
pub told_no : {P : Type 0} → ¬ P → ((false ≡ true) ↔ P)
told_no n = (λ e. absurd (false≢true e), λ p. absurd (n p))

module _ {s : List ℕ} {w h x y v : ℕ} (e : v ≡ at s w x y) where
  -- A crossing with no mark is open, and one with a mark is not.
  pub unmarked_open : On w h x y → v ≡ 0 → Open w h (Marked s w h) x y
  unmarked_open o z = record { on = o; free = λ m. omega (arith, m.mark) }

  pub marked_closed : v ≢ 0 → ¬ Open w h (Marked s w h) x y
  marked_closed n o = o.free (record { on = o.on; mark = omega arith })

module _ {s : List ℕ} {w h hx hy : ℕ} {four : List ℕ} (d : Distances (Marked s w h) hx hy four) where
  -- Home's distance that way is u, and no other number.
  known : (t : Way) (u v : ℕ) → u ≡ v → Clear (Marked s w h) t hx hy v → (n : ℕ) → (Clear (Marked s w h) t hx hy n ↔ n ≡ u)
  known t u v e c = only (Clear (Marked s w h) t hx hy) u (subst (Clear (Marked s w h) t hx hy) (sym e) c) (λ n m. clear_one)

  place : (k v : ℕ) → get_or (d.e ∷ d.s ∷ d.w ∷ d.n ∷ []) k 0 ≡ v → get_or four k 0 ≡ v
  place k v p = ap (λ (l : List ℕ). get_or l k 0) d.in_order ∙ p

  -- The row's test, and the column's.
  pub row_looks : (x : ℕ) → Axis (λ t n. Clear (Marked s w h) t hx hy n) eastward westward hx x ↔ axis_of (get_or four 0 0) (get_or four 2 0) hx x ≡ true
  row_looks x =
      axis_looks (λ t n. Clear (Marked s w h) t hx hy n) eastward westward _ _ hx x (known eastward _ _ (place 0 d.e refl) d.east)
      (known westward _ _ (place 2 d.w refl) d.west)

  pub column_looks : (y : ℕ) → Axis (λ t n. Clear (Marked s w h) t hx hy n) northward southward hy y ↔ axis_of (get_or four 3 0) (get_or four 1 0) hy y ≡ true
  column_looks y =
      axis_looks (λ t n. Clear (Marked s w h) t hx hy n) northward southward _ _ hy y (known northward _ _ (place 3 d.n refl) d.north)
      (known southward _ _ (place 1 d.s refl) d.south)

  -- Where the row's test fails, home is not assured.
  pub row_fails : {r : Bool} {x y : ℕ} → r ≡ axis_of (get_or four 0 0) (get_or four 2 0) hx x → r ≡ false → ¬ Assured w h (Marked s w h) hx hy x y
  row_fails {x = x} e f a = true≢false (sym ((row_looks x).0 a.east_west) ∙ sym e ∙ f)

  -- Where it passes and both are open, the column's test tells.
  pub column_tells : {r q : Bool} {x y : ℕ} → Open w h (Marked s w h) hx hy → Open w h (Marked s w h) x y
      → r ≡ axis_of (get_or four 0 0) (get_or four 2 0) hx x → r ≡ true → q ≡ axis_of (get_or four 3 0) (get_or four 1 0) hy y
      → ((q ≡ true) ↔ Assured w h (Marked s w h) hx hy x y)
  column_tells {x = x} {y = y} o p e f g = (
    λ t. record { home = o; place = p; east_west = (row_looks x).1 (sym e ∙ f); north_south = (column_looks y).1 (sym g ∙ t) },
    λ a. g ∙ (column_looks y).0 a.north_south,
  )
