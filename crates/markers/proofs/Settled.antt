-- Every row of the table of small lists holds of the definitions: each passes a test that the
-- checker computes, and a row that passes its test holds.
use Rattle.std.specs.Prelude.{◌≡◌, refl, Bool, true, ◌&&◌, List, [], ◌∷◌}
use Rattle.field.specs.Map.{most_markers}
use Rattle.field.specs.Workings.Tests.{and_split}
use Rattle.field.proofs.Workings.Corners.{every}
use Rattle.markers.specs.Table.{Row, Holds, table}
use Rattle.markers.proofs.Rows.{alike, good_at, rises_at, formed_of, place_of, agree, entered_at, cleared_at, passes, passes_holds}

-- Every row of a list holds.
pub data EveryRow : List Row → Type 0 where
  none : EveryRow []
  one : {r : Row} {rs : List Row} → Holds r → EveryRow rs → EveryRow (r ∷ rs)

all_pass : List Row → Bool
all_pass [] = true
all_pass (r ∷ rs) = passes r && all_pass rs

all_hold : (rs : List Row) → all_pass rs ≡ true → EveryRow rs
unfolding all_pass
all_hold [] e = none
all_hold (r ∷ rs) e = let f = and_split _ _ e in one (passes_holds r f.0) (all_hold rs f.1)

table_passes : all_pass table ≡ true
unfolding all_pass table most_markers every alike good_at rises_at formed_of place_of agree entered_at cleared_at passes
table_passes = refl

-- The small lists.
pub every_list_holds : EveryRow table
every_list_holds = all_hold table table_passes
