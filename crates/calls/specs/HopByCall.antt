-- The promise of the hop by a morning sheet (document 02, Req 09): its rules and its answer. The
-- sheet and the list are lent to be read alone, "and the sheet is never altered": so nothing is
-- left to say of lent memory.
use Rattle.std.specs.Prelude.{◌≡◌, List, [], ◌∷◌, ℕ}
use Rattle.field.specs.Refusals.{sheet_not_taken}
use Rattle.field.specs.Morning.{ShownClosed, SheetTaken}
use Rattle.calls.specs.Rules
use Rattle.calls.specs.Rules.{Rule, rule, Gives, LentMap, RocksOf}
use Rattle.calls.specs.Answers.{no_hop, HopsNamed}
use Rattle.calls.specs.declared.Homeward.{Homeward}

-- The sheet is taken over the lent map; and the crossings that it shows closed there.
abbrev pub TakenOn : LentMap → List ℕ → Type 0
TakenOn m sheet = SheetTaken (RocksOf m) m.width m.height sheet

abbrev pub ShownOn : LentMap → List ℕ → ℕ → ℕ → Type 0
ShownOn m sheet = ShownClosed m.width m.height sheet

-- "20, sheet not taken, exactly when one of those conditions fails"
abbrev pub taken_rule : LentMap → List ℕ → Rule
taken_rule m sheet = rule sheet_not_taken (¬ TakenOn m sheet)

-- 20 is "given after 4 and before 8; 8 and 11 read the sheet": the rows stand in the order in which
-- they are tried.
abbrev pub hop_by_rows : LentMap → ℕ → ℕ → ℕ → ℕ → List ℕ → List Rule
hop_by_rows m hx hy x y sheet = taken_rule m sheet ∷ Rules.hop_rows m.width m.height (ShownOn m sheet) hx hy x y

abbrev pub hop_by_table : LentMap → ℕ → ℕ → ℕ → ℕ → List ℕ → List Rule
hop_by_table m hx hy x y sheet = Rules.asking_table m (sheet ∷ []) (Rules.places_rule m hx hy x y ∷ hop_by_rows m hx hy x y sheet)

-- The answer is a hop's, over what the sheet shows closed.
pub record HopByCall (m : LentMap) (hx hy x y : ℕ) (sheet : List ℕ) (r : Homeward) : Type 0 where
  pub given : Gives (hop_by_table m hx hy x y sheet) r.refusal
  pub refused : ¬ (r.refusal ≡ 0) → r ≡ no_hop r.refusal
  pub done : r.refusal ≡ 0 → HopsNamed m.width m.height (ShownOn m sheet) hx hy x y r
