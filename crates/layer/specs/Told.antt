-- The number that is answered tells a refusal from success.
use Rattle.std.specs.Prelude.{◌≡◌}
use Rattle.std.proofs.Common.{arith}
use Rattle.field.specs.declared.refusals.Refusal.{Refusal}
use Rattle.field.specs.declared.refusals.Refusal.TheVariants as Refused
use Rattle.field.specs.Refusals.{number_of}

-- A refusal's number is not 0.
pub some_number : (e : Refusal) → ¬ (number_of e ≡ 0)
some_number Refused.BadSize z = omega arith
some_number Refused.BadSheet z = omega arith
some_number Refused.BadList z = omega arith
some_number Refused.BadPlace z = omega arith
some_number Refused.IdInUse z = omega arith
some_number Refused.IdNotInUse z = omega arith
some_number Refused.NoSlot z = omega arith
some_number Refused.EndClosed z = omega arith
some_number Refused.NoDrive z = omega arith
some_number Refused.ShortRoute z = omega arith
some_number Refused.NotAssured z = omega arith
some_number Refused.BadLetters z = omega arith
some_number Refused.BadHeader z = omega arith
some_number Refused.ShortRaster z = omega arith
some_number Refused.LongRaster z = omega arith
some_number Refused.SharedCrossing z = omega arith
some_number Refused.ShortOutput z = omega arith
some_number Refused.BadLargest z = omega arith
some_number Refused.NoLines z = omega arith
some_number Refused.NotTaken z = omega arith
