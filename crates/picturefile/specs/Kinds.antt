-- The kind of a picture whose header names this largest value, or refusal 18 where no kind has it.
use Rattle.std.specs.Prelude.{◌≡◌, ℕ, Result, Ok, Err}
use Rattle.field.specs.declared.refusals.Refusal.{Refusal}
use Rattle.field.specs.declared.refusals.Refusal.TheVariants.{BadLargest}
use Rattle.picturefile.specs.declared.Depth.{Depth}
use Rattle.picturefile.specs.Depths.{largest_of}

abbrev pub KindOf : ℕ → Result Depth Refusal → Type 0
KindOf largest (Ok d) = largest ≡ largest_of d
KindOf largest (Err r) = (r ≡ BadLargest) × ((d : Depth) → ¬ (largest ≡ largest_of d))
