-- Numbers that rise from each place to the next, up to a count, rise over every stretch: so a
-- number, an id, stands in one place only.
use Rattle.std.specs.Prelude.{◌≡◌, List, ℕ, zero, suc, ◌+◌, ◌-◌, ◌<◌, ◌≤◌}
use Rattle.std.proofs.Common.{ap, arith}
use Rattle.std.proofs.Math.Decide.{dec_lt}
use Rattle.field.specs.declared.Marker.{Marker}
use Rattle.markers.specs.List.{slot}

-- f rises from each place to the next, up to the count.
abbrev pub Rises : (ℕ → ℕ) → ℕ → Type 0
Rises f count = (k : ℕ) → k + 1 < count → f k < f (k + 1)

-- The ids in use rise, as in every well-formed list.
abbrev pub RisingIds : List Marker → ℕ → Type 0
RisingIds list count = Rises (λ k. (slot list k).id) count

module _ (f : ℕ → ℕ) (count : ℕ) (r : Rises f count) where
  stretch : (j d : ℕ) → j + d + 1 < count → f j < f (j + d + 1)
  stretch j zero l = omega (arith, r j (omega arith), ap f (next j))
    where
      next : (i : ℕ) → i + 1 ≡ i + 0 + 1
      next i = omega arith
  stretch j (suc d) l = omega (arith, stretch j d (omega arith), r (j + d + 1) (omega arith), ap f (next j d))
    where
      next : (i e : ℕ) → i + e + 1 + 1 ≡ i + suc e + 1
      next i e = omega arith

  pub rises_lt : (j k : ℕ) → j < k → k < count → f j < f k
  rises_lt j k l m = omega (arith, stretch j (k - j - 1) (omega arith), ap f (there j k l))
    where
      there : (i n : ℕ) → i < n → i + (n - i - 1) + 1 ≡ n
      there i n p = omega arith

  pub rises_le : (j k : ℕ) → j ≤ k → k < count → f j ≤ f k
  rises_le j k l m = go (dec_lt j k)
    where
      go : Dec (j < k) → f j ≤ f k
      go (yes p) = omega (arith, rises_lt j k p m)
      go (no p) = let e : j ≡ k = omega arith in omega (arith, ap f e)

  -- Two places with one number are one place.
  pub rises_one : (j k : ℕ) → j < count → k < count → f j ≡ f k → j ≡ k
  rises_one j k l m e = go (dec_lt j k) (dec_lt k j)
    where
      go : Dec (j < k) → Dec (k < j) → j ≡ k
      go (yes p) q = absurd (omega (arith, rises_lt j k p m))
      go (no p) (yes q) = absurd (omega (arith, rises_lt k j q l))
      go (no p) (no q) = omega arith

-- An id in use stands in one slot only.
pub id_one : (list : List Marker) (count : ℕ) → RisingIds list count → (j k : ℕ) → j < count → k < count → (slot list j).id ≡ (slot list k).id → j ≡ k
id_one list count r j k l m e = rises_one (λ k. (slot list k).id) count r j k l m e
