-- Every number is printed somehow: by the fewest digits that hold it.
use Rattle.std.specs.Prelude.{◌≡◌, List, ℕ, zero, suc, ◌-◌, ◌^◌, ◌<◌, ◌≤◌}
use Rattle.std.proofs.Common.{arith, pow-suc}
use Rattle.std.proofs.Math.Decide.{dec_le}
use Rattle.writer.specs.Digits.{DigitCount, digits_of}
use Rattle.printing.specs.Printed.{Printed}
use Rattle.printing.specs.PrintLaws.{digits_printed}

pub power_over : (v : ℕ) → v < 10 ^ suc v
power_over zero = omega arith
power_over (suc v) = omega (arith, pow-suc 10 (suc v), power_over v)

unfoldable pub digits_least : (v n : ℕ) → v < 10 ^ suc n → (k : ℕ) × DigitCount v k
digits_least v zero l = (1, record { some = omega arith; enough = l; needed = λ m. absurd (omega arith) })
digits_least v (suc n) l = go (dec_le (10 ^ suc n) v) (digits_least v n)
  where
    one_less : suc (suc n) - 1 ≡ suc n
    one_less = omega arith

    go : Dec (10 ^ suc n ≤ v) → (v < 10 ^ suc n → (k : ℕ) × DigitCount v k) → (k : ℕ) × DigitCount v k
    go (yes m) fewer = (suc (suc n), record { some = omega arith; enough = l; needed = λ k. rw one_less m })
    go (no m) fewer = fewer (omega arith)

unfoldable pub printed_some : (v : ℕ) → (l : List ℕ) × Printed v l
printed_some v = let c = digits_least v v (power_over v) in (digits_of c.0 v, digits_printed c.1)
