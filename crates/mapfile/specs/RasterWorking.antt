-- The rasters' bits as functions of their bytes, and the verdict on a P1 raster.
use Rattle.std.specs.Prelude.{◌≡◌, refl, List, [], ◌∷◌, ◌++◌, ℕ, zero, suc, ◌≤◌}
use Rattle.std.proofs.Common.{sym, ap, ◌∙◌, arith}
use Rattle.std.proofs.Math.Decide.{ℕ_discrete}
use Rattle.field.specs.Workings.Sheet.{sheet}
use Rattle.mapfile.specs.Header.{Blank, space, tab, return, feed}
use Rattle.mapfile.specs.Raster.{packed_bit, PlainByte, is_blank, is_zero, is_one}
use Rattle.mapfile.specs.HeaderWorking.{pick, pick_yes, pick_no, blank_dec}

-- The bits of packed rows.
unfoldable pub raw_bits : ℕ → ℕ → List ℕ → List ℕ
raw_bits w h l = sheet w h (λ x r. packed_bit w l r x)

-- The bits of the digits 0 and 1; other bytes are passed over.
unfoldable pub digits_of : List ℕ → List ℕ
digits_of [] = []
digits_of (b ∷ l) = pick (ℕ_discrete b 48) (0 ∷ digits_of l) (pick (ℕ_discrete b 49) (1 ∷ digits_of l) (digits_of l))

pub digits_of_none : digits_of [] ≡ []
unfolding digits_of
digits_of_none = refl

pub digits_of_zero : {b : ℕ} (l : List ℕ) → b ≡ 48 → digits_of (b ∷ l) ≡ 0 ∷ digits_of l
unfolding digits_of
digits_of_zero {b} l e = pick_yes (ℕ_discrete b 48) _ _ e

pub digits_of_one : {b : ℕ} (l : List ℕ) → b ≡ 49 → digits_of (b ∷ l) ≡ 1 ∷ digits_of l
unfolding digits_of
digits_of_one {b} l e = pick_no (ℕ_discrete b 48) _ _ (omega arith) ∙ pick_yes (ℕ_discrete b 49) _ _ e

pub digits_of_other : {b : ℕ} (l : List ℕ) → ¬ (b ≡ 48) → ¬ (b ≡ 49) → digits_of (b ∷ l) ≡ digits_of l
unfolding digits_of
digits_of_other {b} l p q = pick_no (ℕ_discrete b 48) _ _ p ∙ pick_no (ℕ_discrete b 49) _ _ q

-- No blank is a digit 0 or 1.
pub blank_no_bit : {b : ℕ} → Blank b → (¬ (b ≡ 48)) × (¬ (b ≡ 49))
blank_no_bit (space e) = (omega arith, omega arith)
blank_no_bit (tab e) = (omega arith, omega arith)
blank_no_bit (return e) = (omega arith, omega arith)
blank_no_bit (feed e) = (omega arith, omega arith)

-- The bits of bytes after bytes.
pub digits_of_append : (l k : List ℕ) → digits_of (l ++ k) ≡ digits_of l ++ digits_of k
digits_of_append [] k = ap (λ (m : List ℕ). m ++ digits_of k) (sym digits_of_none)
digits_of_append (b ∷ l) k = go (ℕ_discrete b 48) (ℕ_discrete b 49) (digits_of_append l k)
  where
    go : Dec (b ≡ 48) → Dec (b ≡ 49) → digits_of (l ++ k) ≡ digits_of l ++ digits_of k → digits_of (b ∷ l ++ k) ≡ digits_of (b ∷ l) ++ digits_of k
    go (yes p) q e =
        digits_of_zero (l ++ k) p ∙ ap (λ (m : List ℕ). 0 ∷ m) e ∙ ap (λ (m : List ℕ). m ++ digits_of k) (sym (digits_of_zero l p))
    go (no p) (yes q) e =
        digits_of_one (l ++ k) q ∙ ap (λ (m : List ℕ). 1 ∷ m) e ∙ ap (λ (m : List ℕ). m ++ digits_of k) (sym (digits_of_one l q))
    go (no p) (no q) e =
        digits_of_other (l ++ k) p q ∙ e ∙ ap (λ (m : List ℕ). m ++ digits_of k) (sym (digits_of_other l p q))

-- The verdict on a P1 raster with n digits still to come: the refusal at the first fault, or 0.
unfoldable pub plain_verdict : List ℕ → ℕ → ℕ
plain_verdict [] zero = 0
plain_verdict [] (suc n) = 14
plain_verdict (b ∷ l) zero = pick (blank_dec b) (plain_verdict l zero) 15
plain_verdict (b ∷ l) (suc n) =
    pick (blank_dec b) (plain_verdict l (suc n)) (pick (ℕ_discrete b 48) (plain_verdict l n) (pick (ℕ_discrete b 49) (plain_verdict l n) 13))

pub verdict_blank : {b : ℕ} (l : List ℕ) (n : ℕ) → Blank b → plain_verdict (b ∷ l) n ≡ plain_verdict l n
unfolding plain_verdict
verdict_blank {b} l zero e = pick_yes (blank_dec b) _ _ e
verdict_blank {b} l (suc n) e = pick_yes (blank_dec b) _ _ e

pub verdict_zero : (l : List ℕ) (n : ℕ) → plain_verdict (48 ∷ l) (suc n) ≡ plain_verdict l n
unfolding plain_verdict
verdict_zero l n = pick_no (blank_dec 48) _ _ (λ e. (blank_no_bit e).0 refl) ∙ pick_yes (ℕ_discrete 48 48) _ _ refl

pub verdict_one : (l : List ℕ) (n : ℕ) → plain_verdict (49 ∷ l) (suc n) ≡ plain_verdict l n
unfolding plain_verdict
verdict_one l n =
    pick_no (blank_dec 49) _ _ (λ e. (blank_no_bit e).1 refl)
    ∙ pick_no (ℕ_discrete 49 48) _ _ (λ (e : ◌≡◌ {A = ℕ} 49 48). omega arith)
    ∙ pick_yes (ℕ_discrete 49 49) _ _ refl

pub verdict_foreign : {b : ℕ} (l : List ℕ) (n : ℕ) → ¬ PlainByte b → 1 ≤ n → plain_verdict (b ∷ l) n ≡ 13
unfolding plain_verdict
verdict_foreign l zero p s = absurd (omega arith)
verdict_foreign {b} l (suc n) p s =
    pick_no (blank_dec b) _ _ (λ e. p (is_blank e)) ∙ pick_no (ℕ_discrete b 48) _ _ (λ e. p (is_zero e)) ∙ pick_no (ℕ_discrete b 49) _ _ (λ e. p (is_one e))

pub verdict_long : {b : ℕ} (l : List ℕ) (n : ℕ) → ¬ Blank b → n ≡ 0 → plain_verdict (b ∷ l) n ≡ 15
unfolding plain_verdict
verdict_long {b} l zero p s = pick_no (blank_dec b) _ _ p
verdict_long l (suc n) p s = absurd (omega arith)

pub verdict_short : (n : ℕ) → 1 ≤ n → plain_verdict [] n ≡ 14
unfolding plain_verdict
verdict_short zero s = absurd (omega arith)
verdict_short (suc n) s = refl

pub verdict_whole : (n : ℕ) → n ≡ 0 → plain_verdict [] n ≡ 0
unfolding plain_verdict
verdict_whole zero s = refl
verdict_whole (suc n) s = absurd (omega arith)
