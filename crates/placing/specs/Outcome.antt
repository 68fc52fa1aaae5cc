-- The promise leaves one outcome: the numbers are those of the depot, whatever the sheet worked in
-- held before and holds afterwards.
use Rattle.std.specs.Prelude.{◌≡◌, List, ℕ}
use Rattle.field.specs.declared.Depot.{Depot}
use Rattle.field.specs.declared.Placing.{Placing}
use Rattle.field.proofs.Geometry.DepotLaws.{placed_one}
use Rattle.placing.specs.Promise.{Places}

pub placing_one_outcome : {w h : ℕ} {s : List ℕ} {depot : Depot} {g g₁ f f₁ : List ℕ} {p q : Placing} → Places w h s depot g g₁ p
    → Places w h s depot f f₁ q → p ≡ q
placing_one_outcome p q = placed_one p.placed q.placed
