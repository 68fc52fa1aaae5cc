-- The first part of the hop by a morning sheet (document 02, Req 09): refusals 1 to 4, and 20 where
-- a rock is shown open.
use Rattle.std.specs.Prelude.{List, [], ◌∷◌, ℕ, Result, IfOk}
use Rattle.field.specs.declared.Size.{Size}
use Rattle.field.specs.declared.refusals.Refusal.{Refusal}
use Rattle.field.specs.Refusals.{sheet_not_taken, told}
use Rattle.field.specs.Morning.{RocksShown}
use Rattle.sheets.specs.Promise.{Of}
use Rattle.calls.specs.Rules
use Rattle.calls.specs.Rules.{LentMap, RocksOf, Rule, Gives, rule}

-- The rows before the sheet is held against the list.
abbrev pub early_table : LentMap → ℕ → ℕ → ℕ → ℕ → List ℕ → List Rule
early_table m hx hy x y sheet = Rules.asking_table m (sheet ∷ []) (Rules.places_rule m hx hy x y ∷ [])

-- "every crossing with a marker that stops this cart is shown closed": 20 where this fails.
abbrev pub shown_rule : LentMap → List ℕ → Rule
shown_rule m sheet = rule sheet_not_taken (¬ RocksShown (RocksOf m) m.width m.height sheet)

abbrev pub looked_table : LentMap → ℕ → ℕ → ℕ → ℕ → List ℕ → List Rule
looked_table m hx hy x y sheet = Rules.asking_table m (sheet ∷ []) (Rules.places_rule m hx hy x y ∷ shown_rule m sheet ∷ [])

-- The number by these rows, or the map's size.
pub record Looked (m : LentMap) (hx hy x y : ℕ) (sheet : List ℕ) (r : Result Size Refusal) : Type 0 where
  pub given : Gives (looked_table m hx hy x y sheet) (told r)
  pub size : IfOk r (λ map. Of m.width m.height map)
