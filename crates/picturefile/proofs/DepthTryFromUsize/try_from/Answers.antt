-- `try_from` meets its contract: a kind's largest value is one of two.
use Rattle.std.proofs.Common.{◌≡◌, refl, ℕ, arith}
use Rattle.field.specs.Limits.{largest_number, old_largest_number, largest_is, old_largest_is}
use Rattle.picturefile.specs.declared.Depth.{Depth}
use Rattle.picturefile.specs.declared.Depth.TheVariants.{OneByte, TwoBytes}
use Rattle.picturefile.specs.Depths.{largest_of}
use Rattle.picturefile.proofs.DepthTryFromUsize.try_from.Goals as goal

-- Another number than the two is no kind's.
neither : (largest : ℕ) → ¬ (largest ≡ old_largest_number) → ¬ (largest ≡ largest_number) → (d : Depth) → ¬ (largest ≡ largest_of d)
neither largest p q OneByte e = p (omega (arith, old_largest_is))
neither largest p q TwoBytes e = q (omega (arith, largest_is))

pub returns-then-largest-eq-OLD_LARGEST : goal.returns-then-largest-eq-OLD_LARGEST
returns-then-largest-eq-OLD_LARGEST c = omega (arith, old_largest_is)

pub returns-then-largest-eq-LARGEST : goal.returns-then-largest-eq-LARGEST
returns-then-largest-eq-LARGEST c = omega (arith, largest_is)

pub returns : goal.returns
returns c = (refl, neither _ c.if-largest-eq-OLD_LARGEST.false c.if-largest-eq-LARGEST.false)
