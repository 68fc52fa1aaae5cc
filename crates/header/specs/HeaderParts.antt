-- What reading each part of the header promises, by the cases of its answer.
use Rattle.std.specs.Prelude.{◌≡◌, Bool, true, false, List, ℕ, zero, suc, ◌≤◌, length, drop, Option as Maybe, Some, None}
use Rattle.std.proofs.Math.Option.{Option, none, some}
use Rattle.std.specs.Int.{w64}
use Rattle.std.proofs.Common.{Fits}
use Rattle.mapfile.specs.Header.{Header}
use Rattle.mapfile.specs.HeaderWorking.{Value, value, no_value}
use Rattle.header.specs.declared.Numeral.{Numeral}

-- A separator's end, against what the working leaves after it.
abbrev pub GapRead : List ℕ → Option (List ℕ) → Maybe ℕ → Type 0
GapRead src o (Some e) = (e ≤ length src) × (o ≡ some (drop e src))
GapRead src o None = o ≡ none

abbrev pub gap_end : ℕ → Bool → Maybe ℕ
gap_end at true = Some at
gap_end at false = None

-- A separator's end as one number: 0 says that there is none.
abbrev pub gap_at : ℕ → Maybe ℕ
gap_at zero = None
gap_at (suc e) = Some (suc e)

-- A blank that was seen stands before this place. So no separator ends at 0.
abbrev pub Past : ℕ → Bool → Type 0
Past at seen = seen ≡ true → 1 ≤ at

-- Where a skipper may begin. That its length is a machine's number, a slice behind a reference does
-- not say of itself.
pub record MaySkip (src : List ℕ) (at : ℕ) (seen : Bool) : Type 0 where
  pub counted : Fits w64 (length src)
  pub within : at ≤ length src
  pub past : Past at seen

-- A number and its end, against what the working gives.
abbrev pub NumeralRead : List ℕ → Value → Maybe Numeral → Type 0
NumeralRead src o (Some n) = (n.end ≤ length src) × (o ≡ value n.value (drop n.end src))
NumeralRead src o None = o ≡ no_value

abbrev pub numeral_end : ℕ → ℕ → ℕ → Maybe Numeral
numeral_end zero v e = None
numeral_end (suc n) v e = Some (record { value = v; end = e })

-- A header of these numbers stands at the place, by the grammar, and the raster begins at `end`.
pub record HeadFound (src : List ℕ) (at : ℕ) (numbers : List ℕ) (end : ℕ) : Type 0 where
  pub within : end ≤ length src
  pub header : Header numbers (drop at src) (drop end src)

-- No header of so many numbers stands there.
abbrev pub NoHead : List ℕ → ℕ → ℕ → Type 0
NoHead src at n = (vs body : List ℕ) → length vs ≡ n → ¬ Header vs (drop at src) body

-- What each answer says: where the raster begins, or that there is no header.
abbrev pub HeadRead : List ℕ → ℕ → List ℕ → Maybe ℕ → Type 0
HeadRead src at numbers (Some e) = HeadFound src at numbers e
HeadRead src at numbers None = NoHead src at (length numbers)
