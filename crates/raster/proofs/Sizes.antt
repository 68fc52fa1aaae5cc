-- Two sizes of the same width and height are one, and so are two refusals of the same number.
use mathlib.Core.Path.{◌≡◌, refl, sym, ap, subst, ◌∙◌}
use mathlib.Core.List.{[], ◌∷◌}
use Prim.Native.Nat.{ℕ}
use lib.ListN.{get_or}
use Rattle.std.proofs.Props.{props}
use Rattle.field.specs.Map.{Sides}
use Rattle.field.specs.declared.Size.{Size}
use Rattle.field.specs.declared.refusals.Refusal.{Refusal}
use Rattle.field.specs.declared.refusals.Refusal.TheVariants.{BadSize, BadSheet, BadList, BadPlace, IdInUse, IdNotInUse, NoSlot, EndClosed, NoDrive, ShortRoute, NotAssured, BadLetters, BadHeader, ShortRaster, LongRaster, SharedCrossing, ShortOutput, BadLargest, NoLines, NotTaken}
use Rattle.field.specs.Refusals.{number_of}

one_within : {w h : ℕ} → IsProp (Sides w h)
one_within = hlevel props

size_of : (w h : ℕ) → Sides w h → Size
size_of w h s = record { w = w; h = h; within = s }

pub sizes_same : (m n : Size) → m.w ≡ n.w → m.h ≡ n.h → m ≡ n
unfolding size_of
sizes_same m n p q =
    subst (λ (v : ℕ). (t : Sides v n.h) → m ≡ size_of v n.h t) p
    (subst (λ (k : ℕ). (t : Sides m.w k) → m ≡ size_of m.w k t) q (λ t. ap (size_of m.w m.h) (one_within m.within t)))
    n.within

-- The refusals in the order of their numbers, from 1 on.
numbered : ℕ → Refusal
numbered n =
    get_or (NotTaken ∷ BadSize ∷ BadSheet ∷ BadList ∷ BadPlace ∷ IdInUse ∷ IdNotInUse ∷ NoSlot ∷ EndClosed ∷ NoDrive ∷ ShortRoute ∷ NotAssured ∷ BadLetters ∷ BadHeader ∷ ShortRaster ∷ LongRaster ∷ SharedCrossing ∷ ShortOutput ∷ BadLargest ∷ NoLines ∷ NotTaken ∷ []) n NotTaken

of_its_number : (r : Refusal) → numbered (number_of r) ≡ r
unfolding numbered
of_its_number BadSize = refl
of_its_number BadSheet = refl
of_its_number BadList = refl
of_its_number BadPlace = refl
of_its_number IdInUse = refl
of_its_number IdNotInUse = refl
of_its_number NoSlot = refl
of_its_number EndClosed = refl
of_its_number NoDrive = refl
of_its_number ShortRoute = refl
of_its_number NotAssured = refl
of_its_number BadLetters = refl
of_its_number BadHeader = refl
of_its_number ShortRaster = refl
of_its_number LongRaster = refl
of_its_number SharedCrossing = refl
of_its_number ShortOutput = refl
of_its_number BadLargest = refl
of_its_number NoLines = refl
of_its_number NotTaken = refl

pub refusals_same : (r q : Refusal) → number_of r ≡ number_of q → r ≡ q
refusals_same r q e = sym (of_its_number r) ∙ ap numbered e ∙ of_its_number q
