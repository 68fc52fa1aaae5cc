-- One part of the drive: where there is a shortest drive and the route holds it, nothing is
-- refused, and the chooser's drive is written.
use mathlib.Core.Path.{◌≡◌, refl}
use Rattle.std.specs.Prelude.{Result}
use mathlib.Core.List.{List}
use mathlib.Core.Logic.{inl, inr}
use Prim.Native.Nat.{ℕ}
use native.Mathlib.Omega.{arith}
use Rattle.field.specs.Workings.Sheet.{Marked}
use Rattle.field.specs.Drives.{HasDrive, RegionSheet}
use Rattle.field.proofs.Workings.DriveLaws.{has_drive_open, has_drive_open_end}
use Rattle.calls.specs.Rules.{gives_one, AnEndClosed, region_rows, drive_rows}
use Rattle.calls.specs.RuleLaws.{None, none_gives}
use Rattle.field.specs.Refusals.{told}
use Rattle.field.specs.declared.refusals.Refusal.{Refusal}
use Rattle.regions.specs.Promise.{Regioned}
use Rattle.drives.specs.Promise.{Makes}
use Rattle.meetings.specs.Parts.{MayGo, Gone}

-- Where there is a shortest drive, both its ends are open: the region is not refused either.
module _ {w h : ℕ} {s : List ℕ} {ax ay ex ey : ℕ} (v : HasDrive w h (Marked s w h) ax ay ex ey) where
  ends_open : ¬ AnEndClosed (Marked s w h) ax ay ex ey
  ends_open (inl c) = (has_drive_open w h (Marked s w h) v).free c
  ends_open (inr c) = (has_drive_open_end w h (Marked s w h) v).free c

  pub region_sure : {g g' : List ℕ} {found : Result (Unit {0}) Refusal} → Regioned w h s ax ay ex ey g g' found → RegionSheet w h (Marked s w h) ax ay ex ey g'
  region_sure {found = found} r =
      let e : told found ≡ 0 =
      gives_one (region_rows w h (Marked s w h) ax ay ex ey) _ _ r.given
      (none_gives (region_rows w h (Marked s w h) ax ay ex ey) 0 refl (ends_open, (λ n. n.none v, tt))) in
      r.region_after.made (λ b. omega (arith, b.0))

module _ {w h : ℕ} {s g : List ℕ} {ax ay ex ey : ℕ} {route : List ℕ} (k : MayGo w h s g ax ay ex ey route) where
  no_row : None (drive_rows w h (Marked s w h) ax ay ex ey route)
  no_row = (ends_open k.some, (λ n. n.none k.some, (λ l. omega (arith, k.room), tt)))

  -- So no refusal is given.
  pub gone : {z z' : ℕ} {g' route' : List ℕ} {made : Result ℕ Refusal} → Makes w h s ax ay ex ey z g g' route route' z' made → Gone w h s ax ay ex ey z g' route route' z'
  gone {made = made} m =
      record {
        sheet = m.region_after.made (λ b. omega (arith, b.0, never));
        driven = rw (m.route_after.long never) at (m.route_after.driven never);
        rest = rw (m.route_after.long never) at (m.route_after.rest never);
      }
    where
      never : told made ≡ 0
      never =
          gives_one (drive_rows w h (Marked s w h) ax ay ex ey route) _ _ m.given
          (none_gives (drive_rows w h (Marked s w h) ax ay ex ey route) 0 refl no_row)
