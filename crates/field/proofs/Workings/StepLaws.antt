-- One number of a drawn list, after a crossing that is no fault: what the working finds of it is
-- so. Of the numbers of the map, those of (x, y)'s neighbours are one more or less in the row and a
-- width more or less in the column.
use Rattle.std.specs.Prelude.{◌≡◌, Bool, cond, ◌&&◌, List, ℕ, zero, suc, ◌+◌, ◌-◌, ◌*◌, ◌<◌, ◌≤◌, eqb}
use Rattle.std.proofs.Math.Path.{refl, sym, ap}
use Rattle.std.proofs.Common.{◌∙◌, arith, suc-mul, mul-le-mul_right}
use Rattle.std.proofs.Math.Bool.{true, false}
use Rattle.std.proofs.lemmas.Bool.{false≢true}
use Rattle.std.proofs.Math.Decide.{dec_lt}
use Rattle.std.proofs.Math.Dec.{ltb}
use Rattle.std.proofs.Math.ListN.{get_or}
use borrow.Author.Tests.{ltb-true, ltb-false, eqb-true, eqb-false, lt-ltb, eq-eqb}
use Rattle.field.specs.Workings.Checking.{Step}
use Rattle.field.specs.Map.{On, number, Near, east, west, north, south, gap, dist}
use Rattle.field.specs.Reasons.{no_fault, off_the_map, is_closed, not_a_neighbour, not_nearer}
use Rattle.field.specs.Workings.Tests.{and_split, and_both, cond_cases}
use Rattle.field.specs.Workings.Sheet.{Marked, Draws, marked_draws, crossing, number_lt}
use Rattle.field.specs.Workings.Checking.{fault, step_to, neighbour_of, step_of}

-- The crossing (a, b) of the map has the number n.
pub record Numbers (w h n a b : ℕ) : Type 0 where
  pub on : On w h a b
  pub is : n ≡ number w a b

module _ (w h dx dy x y n : ℕ) where
  -- The number is that of a neighbour nearer d, or is not.
  pub data Hopped (t : Step) : Type 0 where
    goes : t.reason ≡ no_fault → Numbers w h n t.x t.y → Near x y t.x t.y → dist t.x t.y dx dy < dist x y dx dy → Hopped t
    far : t.reason ≡ not_a_neighbour → ((a b : ℕ) → Numbers w h n a b → ¬ Near x y a b) → Hopped t
    back : t.reason ≡ not_nearer → (a b : ℕ) → Numbers w h n a b → Near x y a b → ¬ (dist a b dx dy < dist x y dx dy) → Hopped t

-- The number is that of an open crossing, and of such a neighbour or not; or it is not.
pub data Stepped (w h : ℕ) (C : ℕ → ℕ → Type 0) (dx dy x y n : ℕ) (t : Step) : Type 0 where
  outside : t.reason ≡ off_the_map → ((a b : ℕ) → ¬ Numbers w h n a b) → Stepped w h C dx dy x y n t
  shut : t.reason ≡ is_closed → (a b : ℕ) → Numbers w h n a b → C a b → Stepped w h C dx dy x y n t
  free : (a b : ℕ) → Numbers w h n a b → ¬ C a b → Hopped w h dx dy x y n t → Stepped w h C dx dy x y n t

-- Whether a hop is nearer can be told on its own axis.
nearer_up : (p d : ℕ) → (p < d → gap (p + 1) d < gap p d) × (d ≤ p → ¬ (gap (p + 1) d < gap p d))
unfolding gap
nearer_up p d = ((λ l. omega arith), λ l m. omega arith)

nearer_down : (p d : ℕ) → 0 < p → (d < p → gap (p - 1) d < gap p d) × (p ≤ d → ¬ (gap (p - 1) d < gap p d))
unfolding gap
nearer_down p d k = ((λ l. omega arith), λ l m. omega arith)

-- A number a row below that of (x, y) has y above the south edge.
row_south : (w x y n : ℕ) → n + w ≡ number w x y → x < w → (0 < y) × (n ≡ number w x (y - 1))
row_south w x zero n e l = absurd (omega arith)
row_south w x (suc y) n e l =
    let f : suc y - 1 ≡ y = omega arith in
    (omega arith, omega (arith, suc-mul y w, ap (λ (j : ℕ). j * w) f))

fails : {p q r t : ℕ} → (eqb p q && ltb r t) ≡ false → ¬ ((p ≡ q) × (r < t))
fails {p} {q} {r} {t} e k = false≢true (sym e ∙ and_both _ _ (eq-eqb p q k.0) (lt-ltb r t k.1))

module _ (w h dx dy x y n : ℕ) (o : On w h x y) where
  -- A hop to a neighbour that has the number, by the test of its axis.
  stepped_to : (b : Bool) (a c : ℕ) → Numbers w h n a c → Near x y a c → (b ≡ true → dist a c dx dy < dist x y dx dy)
      → (b ≡ false → ¬ (dist a c dx dy < dist x y dx dy)) → Hopped w h dx dy x y n (step_to b a c)
  unfolding step_to
  stepped_to true a c k m f g = goes refl k m (f refl)
  stepped_to false a c k m f g = back refl a c k m (g refl)

  to_east : n ≡ number w x y + 1 → x + 1 < w → Hopped w h dx dy x y n (step_to (ltb x dx) (x + 1) y)
  to_east e l =
      stepped_to (ltb x dx) (x + 1) y (record { on = record { in_x = l; in_y = o.in_y }; is = omega arith }) (east refl refl)
      (λ t. omega (arith, (nearer_up x dx).0 (ltb-true _ _ t))) (λ t m. (nearer_up x dx).1 (ltb-false _ _ t) (omega arith))

  to_west : n + 1 ≡ number w x y → 0 < x → Hopped w h dx dy x y n (step_to (ltb dx x) (x - 1) y)
  to_west e l =
      stepped_to (ltb dx x) (x - 1) y (record { on = record { in_x = omega (arith, o.in_x); in_y = o.in_y }; is = omega arith })
      (west (omega arith) refl)
      (λ t. omega (arith, (nearer_down x dx l).0 (ltb-true _ _ t))) (λ t m. (nearer_down x dx l).1 (ltb-false _ _ t) (omega arith))

  to_north : n ≡ number w x y + w → n < h * w → Hopped w h dx dy x y n (step_to (ltb y dy) x (y + 1))
  to_north e l =
      stepped_to (ltb y dy) x (y + 1) (record { on = record { in_x = o.in_x; in_y = below (dec_lt (y + 1) h) }; is = omega arith })
      (north refl refl)
      (λ t. omega (arith, (nearer_up y dy).0 (ltb-true _ _ t))) (λ t m. (nearer_up y dy).1 (ltb-false _ _ t) (omega arith))
    where
      below : Dec (y + 1 < h) → y + 1 < h
      below (yes k) = k
      below (no k) = absurd (omega (arith, mul-le-mul_right {m = h} {n = y + 1} w (omega arith)))

  to_south : n + w ≡ number w x y → Hopped w h dx dy x y n (step_to (ltb dy y) x (y - 1))
  to_south e =
      let k = row_south w x y n e o.in_x in
      stepped_to (ltb dy y) x (y - 1)
      (record { on = record { in_x = o.in_x; in_y = omega (arith, o.in_y) }; is = k.1 })
      (south refl (omega (arith, k.0)))
      (λ t. omega (arith, (nearer_down y dy k.0).0 (ltb-true _ _ t)))
      (λ t m. (nearer_down y dy k.0).1 (ltb-false _ _ t) (omega arith))

  -- A neighbour's number is one of the four.
  nowhere : ¬ ((n ≡ number w x y + 1) × (x + 1 < w)) → ¬ ((n + 1 ≡ number w x y) × (0 < x)) → ¬ (n ≡ number w x y + w) → ¬ (n + w ≡ number w x y)
      → (a b : ℕ) → Numbers w h n a b → ¬ Near x y a b
  nowhere e f g k a b m (east p q) = e (omega (arith, m.is, ap (λ (j : ℕ). j * w) q), omega (arith, m.on.in_x))
  nowhere e f g k a b m (west p q) = f (omega (arith, m.is, ap (λ (j : ℕ). j * w) q), omega arith)
  nowhere e f g k a b m (north p q) = g (omega (arith, m.is, ap (λ (j : ℕ). j * w) q))
  nowhere e f g k a b m (south p q) = k (omega (arith, m.is, ap (λ (j : ℕ). j * w) q))

  pub hopped : n < h * w → Hopped w h dx dy x y n (neighbour_of w dx dy x y n)
  unfolding neighbour_of
  hopped l =
      cond_cases (Hopped w h dx dy x y n) (eqb n (number w x y + 1) && ltb (x + 1) w)
      (λ e. let k = and_split _ _ e in to_east (eqb-true _ _ k.0) (ltb-true _ _ k.1))
      (λ e. cond_cases (Hopped w h dx dy x y n) (eqb (n + 1) (number w x y) && ltb 0 x)
      (λ f. let k = and_split _ _ f in to_west (eqb-true _ _ k.0) (ltb-true _ _ k.1))
      (λ f. cond_cases (Hopped w h dx dy x y n) (eqb n (number w x y + w)) (λ g. to_north (eqb-true _ _ g) l)
      (λ g. cond_cases (Hopped w h dx dy x y n) (eqb (n + w) (number w x y)) (λ k. to_south (eqb-true _ _ k))
      (λ k. far refl (nowhere (fails e) (fails f) (eqb-false _ _ g) (eqb-false _ _ k))))))

  -- What is found of the number.
  pub stepped : (C : ℕ → ℕ → Type 0) (s : List ℕ) → Draws w h C s → Stepped w h C dx dy x y n (step_of s w h dx dy x y n)
  unfolding step_of
  stepped C s D =
      cond_cases (Stepped w h C dx dy x y n) (ltb n (h * w)) (λ e. within (ltb-true _ _ e))
      (λ e. outside refl (λ a b m. omega (arith, ltb-false n (h * w) e, m.is, number_lt w h a b m.on)))
    where
      within : n < h * w → Stepped w h C dx dy x y n (cond (ltb 0 (get_or s n 0)) (fault is_closed) (neighbour_of w dx dy x y n))
      within l =
          let k = crossing w h n l in
          let m : Numbers w h n k.x k.y = record { on = k.on; is = sym k.is } in
          let f : get_or s n 0 ≡ get_or s (number w k.x k.y) 0 = ap (λ (i : ℕ). get_or s i 0) m.is in
          cond_cases (Stepped w h C dx dy x y n) (ltb 0 (get_or s n 0))
          (λ e. shut refl k.x k.y m (D.sound k.x k.y (record { on = k.on; mark = omega (arith, ltb-true 0 (get_or s n 0) e) })))
          (λ e. free k.x k.y m (λ c. omega (arith, ltb-false 0 (get_or s n 0) e, (D.complete k.x k.y c).mark)) (hopped l))

-- A number that is not at fault leads to a crossing of the map.
pub step_on : (s : List ℕ) (w h dx dy x y n : ℕ) → On w h x y → (step_of s w h dx dy x y n).reason ≡ no_fault
    → On w h (step_of s w h dx dy x y n).x (step_of s w h dx dy x y n).y
step_on s w h dx dy x y n o e = go (stepped w h dx dy x y n o (Marked s w h) s (marked_draws w h s))
  where
    t : Step
    t = step_of s w h dx dy x y n

    go : Stepped w h (Marked s w h) dx dy x y n t → On w h t.x t.y
    go (outside v f) = absurd (omega arith)
    go (shut v a c k f) = absurd (omega arith)
    go (free a c k f (far v g)) = absurd (omega arith)
    go (free a c k f (back v i j m g q)) = absurd (omega arith)
    go (free a c k f (goes v m g q)) = m.on
