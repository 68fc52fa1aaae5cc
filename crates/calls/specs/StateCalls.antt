-- The calls that give a cart a drive (request 13).
use Rattle.std.specs.Prelude.{◌≡◌, List, ℕ, length}
use Rattle.calls.specs.Rules.{LentMap}
use Rattle.calls.specs.Calls.{DriveCall, RouteCall}
use Rattle.calls.specs.LinesCall.{LinesDriveCall}
use Rattle.calls.specs.declared.Drove.{Drove}

-- One of the three calls has given a cart a drive of so many crossings, with this state before it
-- and that one after it. The map, the rocks and the ends may be any.
pub data CartDrives (crossings state state' : ℕ) : Type 0 where
  by_drive : {m : LentMap} {sx sy dx dy : ℕ} {labels region route labels' region' route' : List ℕ} {r : Drove}
      → DriveCall m sx sy dx dy labels region route state labels' region' route' state' r → r.refusal ≡ 0 → crossings ≡ r.length
      → CartDrives crossings state state'
  by_part : {m : LentMap} {sx sy dx dy : ℕ} {labels region route labels' region' part : List ℕ} {number : ℕ} {from at : ℕ × ℕ}
      → RouteCall m sx sy dx dy labels region route state labels' region' part number state' from at → number ≡ 0 → crossings ≡ length part
      → CartDrives crossings state state'
  by_lines : {m : LentMap} {sx sy dx dy : ℕ} {labels region route labels' region' route' : List ℕ} {r : Drove}
      → LinesDriveCall m sx sy dx dy labels region route state labels' region' route' state' r → r.refusal ≡ 0 → crossings ≡ r.length
      → CartDrives crossings state state'
