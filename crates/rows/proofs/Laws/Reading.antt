-- The rocks of a sheet read word by word.
use mathlib.Core.Path.{◌≡◌, sym, ap, ◌∙◌}
use mathlib.Core.List.{List}
use mathlib.Core.Logic.{◌⊎◌, inl, inr}
use Prim.Native.Nat.{ℕ, ◌+◌, ◌*◌, ◌/◌, ◌%◌, ◌^◌, ◌<◌}
use native.Mathlib.Omega.{arith}
use native.Mathlib.Decide.{dec_lt, ℕ_discrete}
use lib.ListN.{length, get_or, set, length-set}
use Rattle.field.specs.Map.{Sides, On, at}
use Rattle.bits.specs.Bit.{bit_at}
use Rattle.bits.specs.Laws.{zero_bit}
use Rattle.words.specs.Words.{Reads}
use Rattle.rows.specs.Layout.{spot, sides_w}
use Rattle.rows.specs.Rows.{bit_in, Place, WidthAt}
use Rattle.rows.specs.Sheets.{Reading, Drawing, Drawn}
use Rattle.rows.specs.Laws.{by_set}
use Rattle.rows.proofs.Laws.Widths.{at_word}

pub draw_start : {D : ℕ → ℕ → Type 0} {w h : ℕ} {s c : List ℕ} → Reading h s c → ((b a : ℕ) → D b a → ⊥) → Drawing D w h s c
draw_start {D} {w} {h} {s} {c} r n =
    record {
      rows = record { long = r.long; words = λ i. omega (arith, r.blank i); narrow = λ i k e. absurd (omega (arith, zero_bit (get_or c i 0) k (r.blank i))) };
      drawn = λ x y o d. absurd (n y (x / 64) d);
    }

pub draw_all : {D F : ℕ → ℕ → Type 0} {w h : ℕ} {s c : List ℕ} → ((x y : ℕ) → On w h x y → F y (x / 64) → D y (x / 64)) → Drawing D w h s c → Drawing F w h s c
draw_all k d = record { rows = d.rows; drawn = λ x y o f. d.drawn x y o (k x y o f) }

pub draw_done : {D : ℕ → ℕ → Type 0} {w h : ℕ} {s c : List ℕ} → ((x y : ℕ) → On w h x y → D y (x / 64)) → Drawing D w h s c → Drawn w h s c
draw_done k d = record { rows = d.rows; drawn = λ x y o. d.drawn x y o (k x y o) }

pub draw_word : {D F : ℕ → ℕ → Type 0} {w h y j n v : ℕ} {s c : List ℕ} → Sides w h → y < h → 64 * j < w → WidthAt w j n → Reads (y * w + 64 * j) s n v → Drawing D w h s c
    → ((b a : ℕ) → F b a → D b a ⊎ ((b ≡ y) × (a ≡ j))) → Drawing F w h s (set c (spot y j) v)
draw_word {D} {F} {w} {h} {y} {j} {n} {v} {s} {c} sides ly lj wd r d f =
    record {
      rows = record {
        long = simp length-set d.rows.long;
        words = λ k. by_set c (spot y j) v room (λ (u : ℕ). u < 2 ^ 64) k (λ e. r.fits) (λ m. d.rows.words k);
        narrow = λ k b. by_set c (spot y j) v room (λ (u : ℕ). bit_at u b ≡ 1 → Place w h k b) k (λ e q. rw e (place b q (dec_lt b n))) (λ m q. d.rows.narrow k b q);
      };
      drawn = λ x z o p. by_set c (spot y j) v room (λ (u : ℕ). bit_at u (x % 64) ≡ at s w x z) (spot z (x / 64)) (λ e. here x z o (at_word x z (sides_w sides) lj o.in_x e))
          (λ m. there x z o m (f z (x / 64) p));
    }
  where
    room : spot y j < length c
    room = omega (arith, d.rows.long, sides_w sides)

    place : (b : ℕ) → bit_at v b ≡ 1 → Dec (b < n) → Place w h (spot y j) b
    place b q (yes l) =
        record { x = 64 * j + b; y = y; on = record { in_x = omega (arith, wd.in_row); in_y = ly }; word = omega (arith, wd.most); bit = omega (arith, wd.most) }
    place b q (no l) = absurd (omega (arith, r.past b (omega arith)))

    here : (x z : ℕ) → On w h x z → (z ≡ y) × (x / 64 ≡ j) → bit_at v (x % 64) ≡ at s w x z
    here x z o p =
        let q : y * w + 64 * j + x % 64 ≡ y * w + x = omega (arith, p.1) in
        r.upto (x % 64) (wd.all (x % 64) (omega arith) (omega (arith, p.1, o.in_x))) ∙ ap (λ (k : ℕ). get_or s k 0) q ∙ ap (λ (k : ℕ). at s w x k) (sym p.0)

    there : (x z : ℕ) → On w h x z → (spot z (x / 64) ≡ spot y j → ⊥) → D z (x / 64) ⊎ ((z ≡ y) × (x / 64 ≡ j)) → bit_in c x z ≡ at s w x z
    there x z o m (inl p) = d.drawn x z o p
    there x z o m (inr p) = absurd (m (omega (arith, p.0, p.1)))

-- The words of a row up to word j, and all words of the rows before it.
pub row_none : {b y a : ℕ} → (b < y) ⊎ ((b ≡ y) × (a < 0)) → b < y
row_none (inl p) = p
row_none (inr p) = absurd (omega (arith, p.1))

pub row_next : {b y a j : ℕ} → (b < y) ⊎ ((b ≡ y) × (a < j + 1)) → ((b < y) ⊎ ((b ≡ y) × (a < j))) ⊎ ((b ≡ y) × (a ≡ j))
row_next (inl p) = inl (inl p)
row_next {b} {y} {a} {j} (inr p) = go (ℕ_discrete a j)
  where
    go : Dec (a ≡ j) → ((b < y) ⊎ ((b ≡ y) × (a < j))) ⊎ ((b ≡ y) × (a ≡ j))
    go (yes e) = inr (p.0, e)
    go (no n) = inl (inr (p.0, omega (arith, p.1)))

pub row_all : {b y a j : ℕ} → b < y + 1 → a < j → (b < y) ⊎ ((b ≡ y) × (a < j))
row_all {b} {y} {a} {j} l m = go (ℕ_discrete b y)
  where
    go : Dec (b ≡ y) → (b < y) ⊎ ((b ≡ y) × (a < j))
    go (yes e) = inr (e, m)
    go (no n) = inl (omega arith)
