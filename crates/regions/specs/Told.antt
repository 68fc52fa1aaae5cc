-- A refusal's number tells which refusal it is, and 0 that there is none.
use Rattle.std.specs.Prelude.{◌≡◌, refl, [], ◌∷◌, ℕ, Result, Ok, Err, get_or}
use Rattle.std.proofs.Common.{sym, ap, ◌∙◌, arith}
use Rattle.field.specs.Refusals.{number_of, told}
use Rattle.field.specs.declared.refusals.Refusal.{Refusal}
use Rattle.field.specs.declared.refusals.Refusal.TheVariants.{BadSize, BadSheet, BadList, BadPlace, IdInUse, IdNotInUse, NoSlot, EndClosed, NoDrive, ShortRoute, NotAssured, BadLetters, BadHeader, ShortRaster, LongRaster, SharedCrossing, ShortOutput, BadLargest, NoLines, NotTaken}

-- The refusals by their numbers, from 1 on.
abbrev named : ℕ → Refusal
named n =
    get_or (BadSize ∷ BadSize ∷ BadSheet ∷ BadList ∷ BadPlace ∷ IdInUse ∷ IdNotInUse ∷ NoSlot ∷ EndClosed ∷ NoDrive ∷ ShortRoute ∷ NotAssured ∷ BadLetters
    ∷ BadHeader ∷ ShortRaster ∷ LongRaster ∷ SharedCrossing ∷ ShortOutput ∷ BadLargest ∷ NoLines ∷ NotTaken ∷ []) n BadSize

named_number : (r : Refusal) → named (number_of r) ≡ r
named_number BadSize = refl
named_number BadSheet = refl
named_number BadList = refl
named_number BadPlace = refl
named_number IdInUse = refl
named_number IdNotInUse = refl
named_number NoSlot = refl
named_number EndClosed = refl
named_number NoDrive = refl
named_number ShortRoute = refl
named_number NotAssured = refl
named_number BadLetters = refl
named_number BadHeader = refl
named_number ShortRaster = refl
named_number LongRaster = refl
named_number SharedCrossing = refl
named_number ShortOutput = refl
named_number BadLargest = refl
named_number NoLines = refl
named_number NotTaken = refl

pub number_one : {r q : Refusal} → number_of r ≡ number_of q → r ≡ q
number_one {r} {q} e = sym (named_number r) ∙ ap named e ∙ named_number q

some_number : (r : Refusal) → number_of r ≡ 0 → ⊥
some_number BadSize e = omega arith
some_number BadSheet e = omega arith
some_number BadList e = omega arith
some_number BadPlace e = omega arith
some_number IdInUse e = omega arith
some_number IdNotInUse e = omega arith
some_number NoSlot e = omega arith
some_number EndClosed e = omega arith
some_number NoDrive e = omega arith
some_number ShortRoute e = omega arith
some_number NotAssured e = omega arith
some_number BadLetters e = omega arith
some_number BadHeader e = omega arith
some_number ShortRaster e = omega arith
some_number LongRaster e = omega arith
some_number SharedCrossing e = omega arith
some_number ShortOutput e = omega arith
some_number BadLargest e = omega arith
some_number NoLines e = omega arith
some_number NotTaken e = omega arith

-- Two outcomes with one number are one, where those that are not refused are.
pub told_one : {A : Type 0} (a b : Result A Refusal) → ((u v : A) → a ≡ Ok u → b ≡ Ok v → u ≡ v) → told a ≡ told b → a ≡ b
told_one (Ok u) (Ok v) f e = ap Ok (f u v refl refl)
told_one (Ok u) (Err r) f e = absurd (some_number r (sym e))
told_one (Err r) (Ok v) f e = absurd (some_number r e)
told_one (Err r) (Err q) f e = ap Err (number_one e)
