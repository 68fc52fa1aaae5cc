-- The state before a sweep as a sheet: what it has at a place; and the neighbours of a crossing.
use mathlib.Core.Path.{◌≡◌, refl, sym, ap, ◌∙◌}
use mathlib.Core.List.{List}
use Prim.Native.Nat.{ℕ, zero, suc, ◌+◌, ◌<◌, ◌≤◌}
use native.Mathlib.Omega.{arith}
use lib.ListN.{length, get_or, length-map, get_or-map}
use lib.Seq.{ext_get_or}
use borrow.Author.Tests.{lt-ltb, le-ltb}
use Rattle.std.specs.Prelude.{Option, None, Some}
use Rattle.field.specs.declared.Place.{Place}
use Rattle.sweeping.specs.declared.Side.{Side}
use Rattle.sweeping.specs.declared.Side.TheVariants.{East, West, North, South}
use Rattle.field.specs.Map.{On, number, at, Near, east, west, north, south}
use Rattle.field.specs.Workings.Sheet.{lit, west_of, south_of, around}
use Rattle.field.proofs.Workings.Marks.{marked_lit, unmarked_lit}
use Rattle.sweeping.specs.Steps.{Toward, IsNext, new_mark, old, before, Looked, LookedAt, Judged, JudgedPlace}

pub old_kept : {v : ℕ} → v < new_mark → old v ≡ v
old_kept {v} l = simp (lt-ltb v new_mark l)

pub old_none : {v : ℕ} → new_mark ≤ v → old v ≡ 0
old_none {v} l = simp (le-ltb v new_mark l)

pub before_at : (s : List ℕ) (i : ℕ) → get_or (before s) i 0 ≡ old (get_or s i 0)
unfolding before
before_at s i = get_or-map old s i 0

pub before_length : (s : List ℕ) → length (before s) ≡ length s
unfolding before
before_length s = length-map s old

-- Sheets that differ only in what counts as open are one sheet before the sweep.
pub before_same : (s t : List ℕ) → length t ≡ length s → ((i : ℕ) → old (get_or t i 0) ≡ old (get_or s i 0)) → before t ≡ before s
before_same s t e f =
    ext_get_or 0 (before t) (before s) (before_length t ∙ e ∙ sym (before_length s)) (λ i l. before_at t i ∙ f i ∙ sym (before_at s i))

-- There is one place on a side.
toward_one : (d : Side) (p : Place) {x y a b : ℕ} → Toward d p x y → Toward d p a b → (x ≡ a) × (y ≡ b)
toward_one East p t u = (omega arith, omega arith)
toward_one West p t u = (omega arith, omega arith)
toward_one North p t u = (omega arith, omega arith)
toward_one South p t u = (omega arith, omega arith)

-- Off the map there is no mark.
pub off_map : (s : List ℕ) (w h x y : ℕ) → ¬ On w h x y → lit s w h x y ≡ 0
off_map s w h x y n = unmarked_lit s w h x y (λ m. n m.on)

-- Looks at the four neighbours count the closed ones.
looked_lit : (s : List ℕ) (w h r : ℕ) (p : Place) (d : Side) (o : Option Place) (x y : ℕ) → IsNext w h p d o → LookedAt s w h o r → Toward d p x y → r ≡ lit (before s) w h x y
looked_lit s w h r p d None x y f l t = l ∙ sym (off_map (before s) w h x y (λ o. f x y o t))
looked_lit s w h r p d (Some q) x y f l t = let e = toward_one d p f.1 t in rw (← e.0, ← e.1) l.is

looked_west : (s : List ℕ) (w h r : ℕ) (p : Place) (o : Option Place) → IsNext w h p West o → LookedAt s w h o r → r ≡ west_of (before s) w h p.x p.y
unfolding west_of
looked_west s w h r p o f l = go p.x refl o f l
  where
    go : (x : ℕ) → x ≡ p.x → (o : Option Place) → IsNext w h p West o → LookedAt s w h o r → r ≡ west_of (before s) w h x p.y
    go zero e None f l = l
    go zero e (Some q) f l = absurd (omega (arith, f.1.0))
    go (suc x) e o f l = looked_lit s w h r p West o x p.y f l (omega arith, refl)

looked_south : (s : List ℕ) (w h r : ℕ) (p : Place) (o : Option Place) → IsNext w h p South o → LookedAt s w h o r → r ≡ south_of (before s) w h p.x p.y
unfolding south_of
looked_south s w h r p o f l = go p.y refl o f l
  where
    go : (y : ℕ) → y ≡ p.y → (o : Option Place) → IsNext w h p South o → LookedAt s w h o r → r ≡ south_of (before s) w h p.x y
    go zero e None f l = l
    go zero e (Some q) f l = absurd (omega (arith, f.1.1))
    go (suc y) e o f l = looked_lit s w h r p South o p.x y f l (refl, omega arith)

pub around_looked : (s : List ℕ) (w h : ℕ) (p : Place) (a b c d : Option Place) (e u n v : ℕ) → IsNext w h p East a → IsNext w h p West b → IsNext w h p North c → IsNext w h p South d
    → LookedAt s w h a e → LookedAt s w h b u → LookedAt s w h c n → LookedAt s w h d v → e + u + n + v ≡ around (before s) w h p.x p.y
unfolding around
around_looked s w h p a b c d e u n v i j k l f g m o =
    omega (
      arith,
      looked_lit s w h e p East a (p.x + 1) p.y i f (refl, refl),
      looked_west s w h u p b j g,
      looked_lit s w h n p North c p.x (p.y + 1) k m (refl, refl),
      looked_south s w h v p d l o,
    )

-- No look finds more than one.
pub looked_most : (s : List ℕ) (w h r : ℕ) (o : Option Place) → LookedAt s w h o r → r ≤ 1
looked_most s w h r None l = omega arith
looked_most s w h r (Some p) l = l.most

-- Every neighbour is one of the four.
near_judged : (w h : ℕ) (s t : List ℕ) (p : Place) (d : Side) (o : Option Place) {a b : ℕ} → IsNext w h p d o → JudgedPlace w h s t o → Toward d p a b → Judged w h s t a b
near_judged w h s t p d None {a} {b} f j k = record { done = λ o l. absurd (f a b o k) }
near_judged w h s t p d (Some r) {a} {b} f j k = let e = toward_one d p f.1 k in rw (← e.0, ← e.1) j

pub near_four : (w h : ℕ) (s t : List ℕ) (p : Place) (o v q z : Option Place) {a b : ℕ} → IsNext w h p East o → IsNext w h p West v → IsNext w h p North q → IsNext w h p South z → Near p.x p.y a b
    → JudgedPlace w h s t o → JudgedPlace w h s t v → JudgedPlace w h s t q → JudgedPlace w h s t z → Judged w h s t a b
near_four w h s t p o v q z i j k l (east m r) e u n d = near_judged w h s t p East o i e (m, r)
near_four w h s t p o v q z i j k l (west m r) e u n d = near_judged w h s t p West v j u (m, r)
near_four w h s t p o v q z i j k l (north m r) e u n d = near_judged w h s t p North q k n (m, r)
near_four w h s t p o v q z i j k l (south m r) e u n d = near_judged w h s t p South z l d (m, r)

-- What a look at a crossing finds: nothing off the map, and where it is open or new; or else a
-- closed crossing.
found_none : {s : List ℕ} {w h x y : ℕ} → lit (before s) w h x y ≡ 0 → Looked s w h x y 0
found_none e = record { is = sym e; most = omega arith }

looked_none : (s : List ℕ) (w h x y : ℕ) → old (at s w x y) ≡ 0 → Looked s w h x y 0
looked_none s w h x y e = found_none (unmarked_lit (before s) w h x y (λ m. omega (arith, m.mark, before_at s (number w x y))))

pub looked_open : (s : List ℕ) (w h x y : ℕ) → at s w x y ≡ 0 → Looked s w h x y 0
looked_open s w h x y e = looked_none s w h x y (ap old e)

pub looked_new : (s : List ℕ) (w h x y : ℕ) → new_mark ≤ at s w x y → Looked s w h x y 0
looked_new s w h x y l = looked_none s w h x y (old_none l)

pub looked_closed : (s : List ℕ) (w h x y : ℕ) → On w h x y → 0 < at s w x y → at s w x y < new_mark → Looked s w h x y 1
looked_closed s w h x y o l m =
    record {
      is = sym (marked_lit (before s) w h x y (record { on = o; mark = omega (arith, before_at s (number w x y), old_kept {v = at s w x y} m) }));
      most = omega arith;
    }
