-- What is proved of the state after a drive (request 13), in the calls' own terms: of the drive, of
-- the drive whose part is handed back, and of the drive by way of the crossing lines.
use Rattle.std.specs.Prelude.{◌≡◌, refl, List, ℕ, length}
use Rattle.std.proofs.Common.{sym, ◌∙◌}
use Rattle.field.specs.Map.{dist}
use Rattle.field.specs.Chooser.{advanced, Advances}
use Rattle.field.proofs.Advancing.{advances_one, advances_still, driven_advances, driven_foretold, driven_by_advances}
use Rattle.calls.specs.Rules.{LentMap}
use Rattle.calls.specs.Calls.{DriveCall, RouteCall}
use Rattle.calls.specs.LinesCall.{LinesDriveCall}
use Rattle.calls.proofs.LinesCalls.{lines_drive_shortest}
use Rattle.calls.specs.declared.Drove.{Drove}
use Rattle.calls.specs.StateCalls.{CartDrives, by_drive, by_part, by_lines}

-- The drive.
module _ {m : LentMap} {sx sy dx dy : ℕ} {labels region route labels' region' route' : List ℕ} {state state' : ℕ} {r : Drove}
    (c : DriveCall m sx sy dx dy labels region route state labels' region' route' state' r) where
  -- "dispatch can't foretell the state": from now on it can, by the two ends alone.
  pub drive_foretold : r.refusal ≡ 0 → state' ≡ advanced (dist sx sy dx dy) state
  drive_foretold z = driven_foretold (c.route_after.driven z)

  -- "The state after a drive is then the start state advanced once for each hop".
  pub drive_advances : r.refusal ≡ 0 → Advances r.length state state'
  drive_advances z = record { hops = dist sx sy dx dy; counted = c.route_after.long z; is = drive_foretold z }

-- The same of the drive whose part is handed back.
module _ {m : LentMap} {sx sy dx dy : ℕ} {labels region route labels' region' part : List ℕ} {state number state' : ℕ} {from at : ℕ × ℕ}
    (c : RouteCall m sx sy dx dy labels region route state labels' region' part number state' from at) where
  pub route_foretold : number ≡ 0 → state' ≡ advanced (dist sx sy dx dy) state
  route_foretold z = driven_foretold (c.driven z)

  pub route_advances : number ≡ 0 → Advances (length part) state state'
  route_advances z = driven_advances (c.driven z)

-- "Drives over two parts, as in Req 06, pass the state from the first part to the second": the
-- state after both is the start state advanced once for each hop of both.
module _ {m : LentMap} {sx sy dx dy : ℕ} {labels region route labels' region' route' : List ℕ} {state state' : ℕ} {r : Drove}
    (c : LinesDriveCall m sx sy dx dy labels region route state labels' region' route' state' r) where
  pub lines_drive_advances : r.refusal ≡ 0 → Advances r.length state state'
  lines_drive_advances z =
      rw ((lines_drive_shortest c z).hops ∙ sym (c.route_after.long z)) at (driven_by_advances (c.route_after.driven z).by)

  pub lines_drive_foretold : r.refusal ≡ 0 → state' ≡ advanced (dist sx sy dx dy) state
  lines_drive_foretold z =
      advances_one (lines_drive_advances z) (record { hops = dist sx sy dx dy; counted = c.route_after.long z; is = refl }) refl

-- Whichever call gave the drive.
pub cart_advances : {n state state' : ℕ} → CartDrives n state state' → Advances n state state'
cart_advances (by_drive c z e) = rw e (drive_advances c z)
cart_advances (by_part c z e) = rw e (route_advances c z)
cart_advances (by_lines c z e) = rw e (lines_drive_advances c z)

-- "Two carts with equal start states" have equal states after equally long drives, whatever rocks
-- they pass: no longer do they "drift apart as soon as one passes a rock".
pub carts_agree : {n state a b : ℕ} → CartDrives n state a → CartDrives n state b → a ≡ b
carts_agree p q = advances_one (cart_advances p) (cart_advances q) refl

-- "and a drive of no hops leaves it": one crossing alone.
pub cart_still : {state state' : ℕ} → CartDrives 1 state state' → state' ≡ state
cart_still p = advances_still (cart_advances p)
