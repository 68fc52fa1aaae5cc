-- What a morning sheet that is taken (Req 09) shows of one crossing.
use Rattle.std.specs.Prelude.{◌≡◌, List, ℕ, ◌≤◌}
use Rattle.field.specs.Map.{at}
use Rattle.field.specs.Workings.Sheet.{around}

module _ (w h : ℕ) (s : List ℕ) where
  -- One crossing of a sheet that is taken: its byte is a label, and if it is 0, one neighbour at
  -- most is marked.
  pub record Kept (x y : ℕ) : Type 0 where
    pub byte : at s w x y ≤ 2
    pub few : at s w x y ≡ 0 → around s w h x y ≤ 1
