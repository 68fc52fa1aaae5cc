-- Sweeping the rows of a map: growth adds up, and where a sweep changes nothing, what is set is the
-- smallest set.
use mathlib.Core.Path.{◌≡◌, refl, sym, ap, ◌∙◌}
use mathlib.Core.List.{List}
use mathlib.Core.Logic.{◌⊎◌, inl, inr}
use Prim.Native.Nat.{ℕ, ◌+◌, ◌-◌, ◌*◌, ◌/◌, ◌%◌, ◌^◌, ◌<◌, ◌≤◌}
use native.Mathlib.Omega.{arith}
use native.Mathlib.Decide.{ℕ_discrete}
use lib.ListN.{length, get_or}
use lib.Bits.{bit_or}
use Rattle.field.specs.Map.{Sides, On, Near, east, west, north, south, Apart}
use Rattle.field.specs.Labels.{Closed, rock, Stable, closed_stable, smallest}
use Rattle.bits.specs.Bit.{bit_at}
use Rattle.bits.specs.Laws.{or_zero}
use Rattle.rows.specs.Layout.{spot, spot_north, spot_south, spot_east, spot_west}
use Rattle.rows.specs.Rows.{Lit, Rows}
use Rattle.closing.specs.Steps.{around_at}
use Rattle.closing.specs.Growth.{total, Grown, StillWord, Sweeps}
use Rattle.closing.specs.Closes.{Closes}
use Rattle.closing.proofs.Laws.Totals.{total_le}

pub grown_refl : {w h : ℕ} {s : List ℕ} → Rows w h s → Grown w h s s
grown_refl r = record { rows = r; kept = λ x y l. l; sound = λ x y l. rock l.on l; up = omega arith; size = refl }

pub grown_trans : {w h : ℕ} {s t u : List ℕ} → Grown w h s t → Grown w h t u → Grown w h s u
grown_trans {w} {h} {s} {t} {u} f g =
    record {
      rows = g.rows;
      kept = λ x y l. g.kept x y (f.kept x y l);
      sound = λ x y l. smallest (Lit w h t) w h (Closed (Lit w h s) w h) (λ a b o m. f.sound a b m) (closed_stable (Lit w h s) w h) x y (g.sound x y l);
      up = omega (arith, f.up, g.up);
      size = g.size ∙ f.size;
    }

pub sweeps_start : {D : ℕ → ℕ → Type 0} {w h : ℕ} {s : List ℕ} → Rows w h s → ((y j : ℕ) → D y j → ⊥) → Sweeps D w h s s 0
sweeps_start r n = record { grown = grown_refl r; same = λ e. refl; still = λ e y j d. absurd (n y j d); more = λ m. absurd (m refl); frame = λ i n. refl }

pub sweeps_next : {D E F : ℕ → ℕ → Type 0} {w h : ℕ} {s t u : List ℕ} {d e : ℕ} → Sweeps D w h s t d → Sweeps E w h t u e
    → ((y j : ℕ) → F y j → D y j ⊎ E y j) → ((y j : ℕ) → D y j → F y j) → ((y j : ℕ) → E y j → F y j) → Sweeps F w h s u (bit_or d e)
sweeps_next {D} {E} {F} {w} {h} {s} {t} {u} {d} {e} f g k kd ke =
    record {
      grown = grown_trans f.grown g.grown;
      same = λ z. let q = or_zero d e z in g.same q.1 ∙ f.same q.0;
      still = λ z y j m. still (or_zero d e z) y j (k y j m);
      more = λ n. more n (ℕ_discrete d 0) (ℕ_discrete e 0);
      frame = λ i n. g.frame i (λ y j m. n y j (ke y j m)) ∙ f.frame i (λ y j m. n y j (kd y j m));
    }
  where
    still : (d ≡ 0) × (e ≡ 0) → (y j : ℕ) → D y j ⊎ E y j → StillWord w s y j
    still z y j (inl p) = f.still z.0 y j p
    still z y j (inr p) = rw (f.same z.0) at (g.still z.1 y j p)

    more : (bit_or d e ≡ 0 → ⊥) → Dec (d ≡ 0) → Dec (e ≡ 0) → total s < total u
    more n (no p) q = omega (arith, f.more p, g.grown.up)
    more n (yes p) (no q) = omega (arith, f.grown.up, g.more q)
    more n (yes p) (yes q) = absurd (n (ap (λ (x : ℕ). bit_or x e) p ∙ q))

-- Where no word changes, what is set is stable.
module _ {w h : ℕ} {c : List ℕ} (sides : Sides w h) (x y : ℕ) (r : StillWord w c y (x / 64)) where
  abbrev v : ℕ
  v = get_or c (spot y (x / 64)) 0

  abbrev e : ℕ
  e = r.still.e

  abbrev u : ℕ
  u = r.still.w

  east_set : (a b : ℕ) → a ≡ x + 1 → b ≡ y → Lit w h c a b → bit_at e (x % 64) ≡ 1
  east_set a b p q l = go (ℕ_discrete (x % 64) 63)
    where
      go : Dec (x % 64 ≡ 63) → bit_at e (x % 64) ≡ 1
      go (yes f) =
          let m : spot b (a / 64) ≡ spot_east y (x / 64) = omega arith in
          let n : a % 64 ≡ 0 = omega arith in
          rw f (r.still.east.carry ∙ (rw (m, n) at l.set))
      go (no f) =
          let m : spot b (a / 64) ≡ spot y (x / 64) = omega arith in
          let n : a % 64 ≡ x % 64 + 1 = omega arith in
          r.still.east.inner (x % 64) (omega arith) ∙ (rw (m, n) at l.set)

  west_set : (a b : ℕ) → a + 1 ≡ x → b ≡ y → Lit w h c a b → bit_at u (x % 64) ≡ 1
  west_set a b p q l = go (ℕ_discrete (x % 64) 0)
    where
      go : Dec (x % 64 ≡ 0) → bit_at u (x % 64) ≡ 1
      go (yes f) =
          let m : spot b (a / 64) ≡ spot_west y (x / 64) = omega arith in
          let n : a % 64 ≡ 63 = omega arith in
          rw f (r.still.west.carry ∙ (rw (m, n) at l.set))
      go (no f) =
          let m : spot b (a / 64) ≡ spot y (x / 64) = omega arith in
          let n : x % 64 ≡ a % 64 + 1 = omega arith in
          ap (bit_at u) n ∙ r.still.west.inner (a % 64) (omega arith) ∙ ap (λ (k : ℕ). bit_at (get_or c k 0) (a % 64)) (sym m) ∙ l.set

  north_set : (a b : ℕ) → a ≡ x → b ≡ y + 1 → Lit w h c a b → bit_at (get_or c (spot_north y (x / 64)) 0) (x % 64) ≡ 1
  north_set a b p q l =
      let m : spot b (a / 64) ≡ spot_north y (x / 64) = omega arith in
      let n : a % 64 ≡ x % 64 = omega arith in
      rw (m, n) at l.set

  south_set : (a b : ℕ) → a ≡ x → b + 1 ≡ y → Lit w h c a b → bit_at (get_or c (spot_south y (x / 64)) 0) (x % 64) ≡ 1
  south_set a b p q l =
      let m : spot b (a / 64) ≡ spot_south y (x / 64) = omega arith in
      let n : a % 64 ≡ x % 64 = omega arith in
      rw (m, n) at l.set

  two_set : (a b d f : ℕ) → Near x y a b → Near x y d f → Apart a b d f → Lit w h c a b → Lit w h c d f
      → 2 ≤ around_at e u (get_or c (spot_north y (x / 64)) 0) (get_or c (spot_south y (x / 64)) 0) (x % 64)
  two_set a b d f (east p q) (east m n) t k l = absurd (t (omega arith, omega arith))
  two_set a b d f (east p q) (west m n) t k l = omega (arith, east_set a b p q k, west_set d f m n l)
  two_set a b d f (east p q) (north m n) t k l = omega (arith, east_set a b p q k, north_set d f m n l)
  two_set a b d f (east p q) (south m n) t k l = omega (arith, east_set a b p q k, south_set d f m n l)
  two_set a b d f (west p q) (east m n) t k l = omega (arith, west_set a b p q k, east_set d f m n l)
  two_set a b d f (west p q) (west m n) t k l = absurd (t (omega arith, omega arith))
  two_set a b d f (west p q) (north m n) t k l = omega (arith, west_set a b p q k, north_set d f m n l)
  two_set a b d f (west p q) (south m n) t k l = omega (arith, west_set a b p q k, south_set d f m n l)
  two_set a b d f (north p q) (east m n) t k l = omega (arith, north_set a b p q k, east_set d f m n l)
  two_set a b d f (north p q) (west m n) t k l = omega (arith, north_set a b p q k, west_set d f m n l)
  two_set a b d f (north p q) (north m n) t k l = absurd (t (omega arith, omega arith))
  two_set a b d f (north p q) (south m n) t k l = omega (arith, north_set a b p q k, south_set d f m n l)
  two_set a b d f (south p q) (east m n) t k l = omega (arith, south_set a b p q k, east_set d f m n l)
  two_set a b d f (south p q) (west m n) t k l = omega (arith, south_set a b p q k, west_set d f m n l)
  two_set a b d f (south p q) (north m n) t k l = omega (arith, south_set a b p q k, north_set d f m n l)
  two_set a b d f (south p q) (south m n) t k l = absurd (t (omega arith, omega arith))

  word_set : On w h x y → (a b d f : ℕ) → Near x y a b → Near x y d f → Apart a b d f → Lit w h c a b → Lit w h c d f → Lit w h c x y
  word_set o a b d f n m t k l =
      record { on = o; set = r.still.grows (x % 64) (omega arith) (r.masks.has (x % 64) (omega arith) (omega (arith, o.in_x))) (two_set a b d f n m t k l) }

pub still_stable : {w h : ℕ} {c : List ℕ} → Sides w h → ((y j : ℕ) → (y < h) × (64 * j < w) → StillWord w c y j) → Stable w h (Lit w h c)
still_stable sides still x y a b d e o n m t k l =
    word_set sides x y (still y (x / 64) (o.in_y, omega (arith, o.in_x))) o a b d e n m t k l

-- A sweep of t that changed nothing.
pub closes : {w h d : ℕ} {s t u : List ℕ} → Sides w h → Grown w h s t → Sweeps (λ (b a : ℕ). (b < h) × (64 * a < w)) w h t u d → d ≡ 0 → Closes w h s u
closes {w} {h} {d} {s} {t} {u} sides g f e =
    rw (f.same e)
    (record {
      rows = g.rows;
      sound = g.sound;
      complete = smallest (Lit w h s) w h (Lit w h t) (λ x y o l. g.kept x y l) (still_stable sides (f.still e));
      size = g.size;
    })

-- What is left to grow.
unfoldable pub left : List ℕ → ℕ
left c = length c * 2 ^ 64 - total c

pub left_less : {w h : ℕ} {s t : List ℕ} → Grown w h s t → total s < total t → left t < left s
unfolding left
left_less {w} {h} {s} {t} g l = omega (arith, total_le t g.rows.words, g.size)

pub sweeps_all : {D F : ℕ → ℕ → Type 0} {w h d : ℕ} {s t : List ℕ} → ((y j : ℕ) → F y j → D y j) → ((y j : ℕ) → D y j → F y j) → Sweeps D w h s t d → Sweeps F w h s t d
sweeps_all k q f =
    record { grown = f.grown; same = f.same; still = λ e y j m. f.still e y j (k y j m); more = f.more; frame = λ i n. f.frame i (λ y j m. n y j (q y j m)) }

pub sweeps_zero : {D : ℕ → ℕ → Type 0} {w h d : ℕ} {s t : List ℕ} → d ≡ 0 → Sweeps D w h s t d → Sweeps D w h s t 0
sweeps_zero {D} {w} {h} {d} {s} {t} e f = rw e at f
