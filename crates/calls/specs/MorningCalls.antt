-- A cart's journey by a morning sheet.
use Rattle.std.specs.Prelude.{◌≡◌, List, ℕ, ◌+◌}
use Rattle.calls.specs.Rules.{LentMap}
use Rattle.calls.specs.Sequences.{Names}
use Rattle.calls.specs.HopByCall.{HopByCall}
use Rattle.calls.specs.declared.Homeward.{Homeward}

-- A cart that asks for hops home to (hx, hy) from (x, y) by one sheet, "sheet and markers
-- unchanged", and moves to any crossing that the answer names: after n hops it is at (a, b).
pub data JourneyBy (m : LentMap) (sheet : List ℕ) (hx hy x y : ℕ) : ℕ → ℕ → ℕ → Type 0 where
  start : {n a b : ℕ} → n ≡ 0 → a ≡ x → b ≡ y → JourneyBy m sheet hx hy x y n a b
  move : {n k a b c d : ℕ} {r : Homeward} → JourneyBy m sheet hx hy x y n a b → HopByCall m hx hy a b sheet r → r.refusal ≡ 0 → Names r c d → k ≡ n + 1
      → JourneyBy m sheet hx hy x y k c d
