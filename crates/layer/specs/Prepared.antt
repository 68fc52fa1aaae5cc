-- The first part of every asking: refusals 1 to 4, found before anything is written, and the cart's
-- rocks, or with `low` every marker, stamped on the label sheet where there is none. And what is
-- found before a marker is entered or cleared.
use Rattle.std.specs.Prelude.{◌≡◌, Bool, true, false, List, [], ◌∷◌, ◌⊎◌, ◌↔◌, ℕ, ◌*◌, length, Result, Ok, Err, MatchResult}
use Rattle.field.specs.declared.Size.{Size}
use Rattle.field.specs.declared.refusals.Refusal.{Refusal}
use Rattle.field.specs.declared.refusals.Refusal.TheVariants.{BadSize, BadList}
use Rattle.field.specs.Refusals.{bad_sheet, told}
use Rattle.sheets.specs.Promise.{Of}
use Rattle.records.specs.Promise.{StampedWith, SpotOf}
use Rattle.records.specs.declared.Spot.{Spot}
use Rattle.calls.specs.Rules
use Rattle.calls.specs.Rules.{LentMap, Sized, Formed, Rule, Gives, rule, lent_map}
use Rattle.layer.specs.declared.LentMap.{LentMap as Lent}

-- What is lent, in the words of the calls.
abbrev pub lent_of : Lent → LentMap
lent_of l = lent_map l.list.now l.count l.w l.h l.clearance

-- The rows before anything is written. `others` tells whether every other lent sheet has width ×
-- height bytes. A call that asks for one place names it twice, and a call that asks for none names
-- (0, 0), which is on every map.
abbrev pub asking_found : LentMap → ℕ → ℕ → ℕ → ℕ → Bool → List ℕ → List Rule
asking_found m x y a b others labels =
    Rules.size_rule m
    ∷ rule bad_sheet ((¬ (length labels ≡ m.height * m.width)) ⊎ (others ≡ false))
    ∷ Rules.list_rule m
    ∷ Rules.places_rule m x y a b
    ∷ []

-- Where nothing is refused: the map's size, and the sheet stamped.
pub record Ready (m : LentMap) (low : Bool) (map : Size) (labels' : List ℕ) : Type 0 where
  pub size : Of m.width m.height map
  pub stamped : StampedWith m.width m.height m.clearance low m.list m.count labels'

pub record Prepared (m : LentMap) (low : Bool) (x y a b : ℕ) (others : Bool) (labels labels' : List ℕ) (r : Result Size Refusal) : Type 0 where
  pub given : Gives (asking_found m x y a b others labels) (told r)
  pub left : MatchResult r (λ map. Ready m low map labels') (λ e. labels' ≡ labels)

-- What is found of the map, the list and an id: the id's place, and whether it is in use, where the
-- size is good and the list is well formed.
abbrev pub Seeks : LentMap → ℕ → Result Spot Refusal → Type 0
Seeks m id (Ok spot) = Sized m × Formed m × SpotOf m.list m.count id spot
Seeks m id (Err e) = ((¬ Sized m) × (e ≡ BadSize)) ⊎ (Sized m × (¬ Formed m) × (e ≡ BadList))
