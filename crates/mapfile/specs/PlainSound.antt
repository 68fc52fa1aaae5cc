-- The verdict on a P1 raster tells it: 0 of a raster, and any other number of its first fault. What
-- holds after the first bytes holds with them in front.
use Rattle.std.specs.Prelude.{◌≡◌, refl, List, [], ◌∷◌, ◌++◌, ◌⊎◌, ℕ, zero, suc, ◌+◌, ◌*◌, length}
use Rattle.std.proofs.Common.{sym, ap, ◌∙◌, append_assoc, inl, inr, arith, length-append}
use Rattle.std.proofs.Math.Decide.{ℕ_discrete}
use Rattle.mapfile.specs.Header.{Blank}
use Rattle.mapfile.specs.HeaderWorking.{blank_dec}
use Rattle.mapfile.specs.Raster.{
  Digits,
  ended,
  skip,
  zero_digit,
  one_digit,
  PlainRaster,
  PlainByte,
  is_blank,
  is_zero,
  is_one,
  PlainFault,
  plain_foreign,
  plain_short,
  plain_long,
}
use Rattle.mapfile.specs.RasterWorking.{
  plain_verdict,
  verdict_blank,
  verdict_zero,
  verdict_one,
  verdict_foreign,
  verdict_long,
  verdict_short,
  verdict_whole,
}
use Rattle.mapfile.specs.RasterLaws.{digits_append}

-- After digits and blanks, of a map with as many crossings more.
module _ {ds d : List ℕ} (x : Digits ds d) {w h a b : ℕ} (more : b * a ≡ length ds + h * w) where
  raster_after : {l bits : List ℕ} → PlainRaster w h l bits → PlainRaster a b (d ++ l) (ds ++ bits)
  raster_after {l} {bits} r =
      record { digits = digits_append x r.digits; crossings = omega (arith, length-append ds bits, r.crossings) }

  fault_after : {l : List ℕ} {n : ℕ} → PlainFault w h l n → PlainFault a b (d ++ l) n
  fault_after (plain_foreign bits front back c e s p q m) =
      plain_foreign (ds ++ bits) (d ++ front) back c (digits_append x e) (omega (arith, length-append ds bits)) p
      (ap (λ (k : List ℕ). d ++ k) q ∙ sym (append_assoc d front (c ∷ back))) m
  fault_after (plain_short bits e s m) = plain_short (ds ++ bits) (digits_append x e) (omega (arith, length-append ds bits)) m
  fault_after (plain_long bits front back c e s p q m) =
      plain_long (ds ++ bits) (d ++ front) back c (digits_append x e) (omega (arith, length-append ds bits)) p
      (ap (λ (k : List ℕ). d ++ k) q ∙ sym (append_assoc d front (c ∷ back))) m

-- The verdict v tells a raster of w × h crossings.
abbrev pub PlainTold : ℕ → ℕ → List ℕ → ℕ → Type 0
PlainTold w h l v = ((bits : List ℕ) × PlainRaster w h l bits × (v ≡ 0)) ⊎ PlainFault w h l v

told_after : {ds d : List ℕ} → Digits ds d → {w h a b : ℕ} → b * a ≡ length ds + h * w → {l : List ℕ} {u v : ℕ} → u ≡ v → PlainTold w h l v
    → PlainTold a b (d ++ l) u
told_after {ds} x more e (inl t) = inl (ds ++ t.0, raster_after x more t.1, e ∙ t.2)
told_after x more e (inr f) = inr (rw e (fault_after x more f))

-- A byte by itself.
blank_alone : {b : ℕ} → Blank b → Digits [] (b ∷ [])
blank_alone {b} p = skip b p (ended refl refl) refl

zero_alone : {b : ℕ} → b ≡ 48 → Digits (0 ∷ []) (b ∷ [])
zero_alone e = zero_digit (ended refl refl) refl (ap (λ (k : ℕ). k ∷ []) e)

one_alone : {b : ℕ} → b ≡ 49 → Digits (1 ∷ []) (b ∷ [])
one_alone e = one_digit (ended refl refl) refl (ap (λ (k : ℕ). k ∷ []) e)

no_plain : {b : ℕ} → ¬ Blank b → ¬ (b ≡ 48) → ¬ (b ≡ 49) → ¬ PlainByte b
no_plain p q r (is_blank e) = p e
no_plain p q r (is_zero e) = q e
no_plain p q r (is_one e) = r e

-- One row of n crossings.
row_told : (l : List ℕ) (n : ℕ) → PlainTold n 1 l (plain_verdict l n)
row_told [] zero = inl ([], record { digits = ended refl refl; crossings = omega arith }, verdict_whole 0 refl)
row_told [] (suc n) = inr (plain_short [] (ended refl refl) (omega arith) (verdict_short (suc n) (omega arith)))
row_told (b ∷ l) zero = go (blank_dec b) (row_told l zero)
  where
    go : Dec (Blank b) → PlainTold 0 1 l (plain_verdict l 0) → PlainTold 0 1 (b ∷ l) (plain_verdict (b ∷ l) 0)
    go (yes p) t = told_after (blank_alone p) (omega arith) (verdict_blank l 0 p) t
    go (no p) t = inr (plain_long [] [] l b (ended refl refl) (omega arith) p refl (verdict_long l 0 p refl))
row_told (b ∷ l) (suc n) = go (blank_dec b) (ℕ_discrete b 48) (ℕ_discrete b 49) (row_told l (suc n)) (row_told l n)
  where
    go : Dec (Blank b) → Dec (b ≡ 48) → Dec (b ≡ 49) → PlainTold (suc n) 1 l (plain_verdict l (suc n)) → PlainTold n 1 l (plain_verdict l n)
        → PlainTold (suc n) 1 (b ∷ l) (plain_verdict (b ∷ l) (suc n))
    go (yes p) q r t u = told_after (blank_alone p) (omega arith) (verdict_blank l (suc n) p) t
    go (no p) (yes q) r t u =
        told_after (zero_alone q) (omega arith) (ap (λ (k : ℕ). plain_verdict (k ∷ l) (suc n)) q ∙ verdict_zero l n) u
    go (no p) (no q) (yes r) t u =
        told_after (one_alone r) (omega arith) (ap (λ (k : ℕ). plain_verdict (k ∷ l) (suc n)) r ∙ verdict_one l n) u
    go (no p) (no q) (no r) t u =
        let foreign : ¬ PlainByte b = no_plain p q r in
        inr (plain_foreign [] [] l b (ended refl refl) (omega arith) foreign refl (verdict_foreign l (suc n) foreign (omega arith)))

pub plain_told : (w h : ℕ) (l : List ℕ) → PlainTold w h l (plain_verdict l (h * w))
plain_told w h l = told_after (ended refl refl) (omega arith) refl (row_told l (h * w))
