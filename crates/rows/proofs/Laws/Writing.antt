-- The labels written word by word: a word that is written has its labels, one with nothing shut has
-- them already, and none is lost.
use mathlib.Core.Path.{◌≡◌, refl, ap, ◌∙◌}
use mathlib.Core.List.{List}
use mathlib.Core.Logic.{◌⊎◌, inl, inr}
use Prim.Native.Nat.{ℕ, suc, ◌+◌, ◌*◌, ◌/◌, ◌%◌, ◌<◌}
use native.Mathlib.Omega.{arith}
use native.Mathlib.Nat.{mul-le-mul_right}
use native.Mathlib.Decide.{dec_lt, ℕ_discrete}
use lib.ListN.{get_or}
use Rattle.field.specs.Map.{On, at}
use Rattle.bits.specs.Laws.{zero_bit, without}
use Rattle.words.specs.Words.{byte_of, WrittenAt}
use Rattle.rows.specs.Layout.{spot}
use Rattle.rows.specs.Rows.{word_at, bit_in, WidthAt}
use Rattle.rows.specs.Sheets.{label_at, Putting, PuttingWord, Wrote}

pub wrote_start : {D : ℕ → ℕ → Type 0} {w h : ℕ} {rock c s : List ℕ} → Putting w h rock c s → ((b a : ℕ) → D b a → ⊥) → Wrote D w h rock c s s
wrote_start p n = record { size = refl; done = λ x y o d. absurd (n y (x / 64) d); keep = λ x y o e. e; fair = p.fair }

pub wrote_next : {D E F : ℕ → ℕ → Type 0} {w h : ℕ} {rock c s t u : List ℕ} → Wrote D w h rock c s t → Wrote E w h rock c t u
    → ((b a : ℕ) → F b a → D b a ⊎ E b a) → Wrote F w h rock c s u
wrote_next {D} {E} {F} {w} {h} {rock} {c} {s} {t} {u} f g k =
    record { size = g.size ∙ f.size; done = λ x y o d. done x y o (k y (x / 64) d); keep = λ x y o e. g.keep x y o (f.keep x y o e); fair = g.fair }
  where
    done : (x y : ℕ) → On w h x y → D y (x / 64) ⊎ E y (x / 64) → at u w x y ≡ label_at rock c x y
    done x y o (inl d) = g.keep x y o (f.done x y o d)
    done x y o (inr d) = g.done x y o d

pub wrote_all : {D F : ℕ → ℕ → Type 0} {w h : ℕ} {rock c s t : List ℕ} → ((b a : ℕ) → F b a → D b a) → Wrote D w h rock c s t → Wrote F w h rock c s t
wrote_all k f = record { size = f.size; done = λ x y o d. f.done x y o (k y (x / 64) d); keep = f.keep; fair = f.fair }

pub putting_next : {D : ℕ → ℕ → Type 0} {w h : ℕ} {rock c s t : List ℕ} → Putting w h rock c s → Wrote D w h rock c s t → Putting w h rock c t
putting_next p f =
    record { size = f.size ∙ p.size; fair = f.fair }

module _ {w h y j n : ℕ} {rock c s : List ℕ} (p : PuttingWord w h y j n rock c s) where
  -- Nothing is shut.
  pub put_skip : without 64 (get_or c (spot y j) 0) (get_or rock (spot y j) 0) ≡ 0 → Wrote (λ (b a : ℕ). (b ≡ y) × (a ≡ j)) w h rock c s s
  put_skip e = record { size = refl; done = λ x z o d. done x z d (p.putting.fair x z o); keep = λ x z o q. q; fair = p.putting.fair }
    where
      done : (x z : ℕ) → (z ≡ y) × (x / 64 ≡ j) → (at s w x z ≡ bit_in rock x z) ⊎ (at s w x z ≡ label_at rock c x z) → at s w x z ≡ label_at rock c x z
      done x z d (inr q) = q
      done x z d (inl q) =
          let i : spot z (x / 64) ≡ spot y j = omega (arith, d.0, d.1) in
          let v : without 64 (word_at c z (x / 64)) (word_at rock z (x / 64)) ≡ 0 = ap (λ (k : ℕ). without 64 (get_or c k 0) (get_or rock k 0)) i ∙ e in
          omega (arith, q, zero_bit (without 64 (word_at c z (x / 64)) (word_at rock z (x / 64))) (x % 64) v)

  pub put_done : {t : List ℕ}
      → WrittenAt (y * w + 64 * j) (get_or rock (spot y j) 0) (without 64 (get_or c (spot y j) 0) (get_or rock (spot y j) 0)) s t n
      → Wrote (λ (b a : ℕ). (b ≡ y) × (a ≡ j)) w h rock c s t
  put_done {t} r =
      record {
        size = r.size;
        done = λ x z o d. here x z o d;
        keep = λ x z o q. keep x z o q (cases x z o);
        fair = λ x z o. fair x z o (cases x z o) (p.putting.fair x z o);
      }
    where
      wd : WidthAt w j n
      wd = p.width

      here : (x z : ℕ) → On w h x z → (z ≡ y) × (x / 64 ≡ j) → at t w x z ≡ label_at rock c x z
      here x z o d =
          let q : y * w + x ≡ y * w + 64 * j + x % 64 = omega (arith, d.1) in
          let i : spot y j ≡ spot z (x / 64) = omega (arith, d.0, d.1) in
          ap (λ (k : ℕ). at t w x k) d.0 ∙ ap (λ (k : ℕ). get_or t k 0) q
          ∙ r.inside (x % 64) (wd.all (x % 64) (omega arith) (omega (arith, d.1, o.in_x)))
          ∙ ap (λ (k : ℕ). byte_of (get_or rock k 0) (without 64 (get_or c k 0) (get_or rock k 0)) (x % 64)) i

      cases : (x z : ℕ) → On w h x z → ((z ≡ y) × (x / 64 ≡ j)) ⊎ (at t w x z ≡ at s w x z)
      cases x z o = go (ℕ_discrete z y) (ℕ_discrete (x / 64) j) (dec_lt z y) (dec_lt (x / 64) j)
        where
          go : Dec (z ≡ y) → Dec (x / 64 ≡ j) → Dec (z < y) → Dec (x / 64 < j) → ((z ≡ y) × (x / 64 ≡ j)) ⊎ (at t w x z ≡ at s w x z)
          go (yes a) (yes b) l m = inl (a, b)
          go (yes a) (no b) l (yes m) =
              let q : z * w ≡ y * w = ap (λ (k : ℕ). k * w) a in
              inr (r.before (z * w + x) (omega arith))
          go (yes a) (no b) l (no m) =
              let q : z * w ≡ y * w = ap (λ (k : ℕ). k * w) a in
              inr (r.after (z * w + x) (omega (arith, wd.most)))
          go (no a) b (yes l) m = inr (r.before (z * w + x) (omega (arith, o.in_x, mul-le-mul_right {m = suc z} {n = y} w (omega arith))))
          go (no a) b (no l) m = inr (r.after (z * w + x) (omega (arith, wd.in_row, mul-le-mul_right {m = suc y} {n = z} w (omega arith))))

      keep : (x z : ℕ) → On w h x z → at s w x z ≡ label_at rock c x z → ((z ≡ y) × (x / 64 ≡ j)) ⊎ (at t w x z ≡ at s w x z) → at t w x z ≡ label_at rock c x z
      keep x z o q (inl d) = here x z o d
      keep x z o q (inr e) = e ∙ q

      fair : (x z : ℕ) → On w h x z → ((z ≡ y) × (x / 64 ≡ j)) ⊎ (at t w x z ≡ at s w x z) → (at s w x z ≡ bit_in rock x z) ⊎ (at s w x z ≡ label_at rock c x z)
          → (at t w x z ≡ bit_in rock x z) ⊎ (at t w x z ≡ label_at rock c x z)
      fair x z o (inl d) q = inr (here x z o d)
      fair x z o (inr e) (inl q) = inl (e ∙ q)
      fair x z o (inr e) (inr q) = inr (e ∙ q)
