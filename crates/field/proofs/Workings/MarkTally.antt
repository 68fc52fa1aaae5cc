-- A sheet of the map's size has as many marks as there are crossings of what it draws: its marks
-- counted from first to last are its marks counted row by row.
use Rattle.std.specs.Prelude.{◌≡◌, refl, List, [], ◌∷◌, ℕ, zero, suc, ◌+◌, ◌*◌, ◌<◌, ltb, length, get_or}
use Rattle.std.proofs.Common.{ap, ◌∙◌, arith, lt-ltb}
use Rattle.field.specs.Labels.{sum_to, Count}
use Rattle.field.specs.Workings.Tests.{bit}
use Rattle.field.specs.Workings.Sheet.{Draws, lit}
use Rattle.field.specs.Workings.MarkCount.{marks}
use Rattle.field.proofs.Workings.Counting.{tally, sum_same, count_marks}

pub sum_append : (m n : ℕ) (f : ℕ → ℕ) → sum_to (m + n) f ≡ sum_to m f + sum_to n (λ k. f (m + k))
unfolding sum_to
sum_append m zero f = let e : m + zero ≡ m = omega arith in ap (λ (k : ℕ). sum_to k f) e ∙ omega arith
sum_append m (suc n) f =
    let e : m + suc n ≡ suc (m + n) = omega arith in
    ap (λ (k : ℕ). sum_to k f) e ∙ omega (arith, sum_append m n f)

sum_rows : (h w : ℕ) (f : ℕ → ℕ) → sum_to (h * w) f ≡ sum_to h (λ y. sum_to w (λ x. f (y * w + x)))
unfolding sum_to
sum_rows zero w f = let e : zero * w ≡ 0 = omega arith in ap (λ (k : ℕ). sum_to k f) e
sum_rows (suc h) w f =
    let e : suc h * w ≡ h * w + w = omega arith in
    ap (λ (k : ℕ). sum_to k f) e ∙ omega (arith, sum_append (h * w) w f, sum_rows h w f)

sum_front : (n : ℕ) (f : ℕ → ℕ) → sum_to (suc n) f ≡ f 0 + sum_to n (λ k. f (suc k))
unfolding sum_to
sum_front zero f = omega arith
sum_front (suc n) f = omega (arith, sum_front n f)

-- One where there is a mark.
mark_at : List ℕ → ℕ → ℕ
mark_at s i = bit (ltb 0 (get_or s i 0))

marks_sum : (s : List ℕ) → marks s ≡ sum_to (length s) (mark_at s)
unfolding marks sum_to mark_at
marks_sum [] = refl
marks_sum (v ∷ vs) = omega (arith, marks_sum vs, sum_front (length vs) (mark_at (v ∷ vs)))

lit_mark : (s : List ℕ) (w h x y : ℕ) → x < w → y < h → mark_at s (y * w + x) ≡ lit s w h x y
unfolding lit mark_at
lit_mark s w h x y p q = simp (lt-ltb x w p, lt-ltb y h q)

pub count_sheet : {w h : ℕ} {P : ℕ → ℕ → Type 0} {s : List ℕ} → length s ≡ h * w → Draws w h P s → Count w h P (marks s)
unfolding tally
count_sheet {w} {h} {P} {s} size D =
    (count_marks w h P s D (marks s)).1
    (marks_sum s ∙ ap (λ (n : ℕ). sum_to n (mark_at s)) size ∙ sum_rows h w (mark_at s)
    ∙ sum_same h _ _ (λ y q. sum_same w _ _ (λ x p. lit_mark s w h x y p q)))
