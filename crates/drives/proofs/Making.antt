-- What asking for a drive makes, as the promise says it, where the region is found and the route
-- has room.
use Rattle.std.proofs.Common.{◌≡◌, ℕ, ◌+◌, ◌≤◌, List, [], ◌∷◌, length, Ok, refl, inl, inr, arith}
use Rattle.field.specs.Map.{On, dist}
use Rattle.field.specs.Drives.{HasDrive, InRegion, InOut, is_in, is_out, RegionSheet}
use Rattle.field.specs.Workings.Sheet.{Marked}
use Rattle.field.proofs.Workings.RegionLaws.{has_drive_in}
use Rattle.field.proofs.Workings.ChoosingLaws.{driven_looks}
use Rattle.calls.specs.Rules.{Gives, region_rows, drive_rows, route_rule}
use Rattle.calls.specs.RuleLaws.{None, gives_none, gives_later}
use Rattle.calls.specs.AfterLaws.{region_made}
use Rattle.regions.specs.Promise.{Regioned}
use Rattle.drives.specs.Promise.{Makes}
use Rattle.drives.specs.Hops.{DriveWritten}

module _ {w h : ℕ} {s : List ℕ} {sx sy dx dy : ℕ} {g g' : List ℕ} where
  module _ (f : Regioned w h s sx sy dx dy g g' (Ok tt)) where
    -- The region sheet is made, and neither 8 nor 9 applies. What stands there at s tells that
    -- there is a drive.
    pub made_sheet : RegionSheet w h (Marked s w h) sx sy dx dy g'
    made_sheet = f.region_after.made (λ e. omega (arith, e.0))

    no_row : None (region_rows w h (Marked s w h) sx sy dx dy)
    no_row = gives_none (region_rows w h (Marked s w h) sx sy dx dy) 0 0 (omega arith) f.given refl

    later : (route : List ℕ) (n : ℕ) → Gives (route_rule sx sy dx dy route ∷ []) n → Gives (drive_rows w h (Marked s w h) sx sy dx dy route) n
    later route n = gives_later (region_rows w h (Marked s w h) sx sy dx dy) (route_rule sx sy dx dy route ∷ []) n no_row

    pub made_drive : On w h sx sy → On w h dx dy → HasDrive w h (Marked s w h) sx sy dx dy
    made_drive from to = go (made_sheet.region sx sy from)
      where
        go : {v : ℕ} → InOut (InRegion w h (Marked s w h) sx sy dx dy sx sy) v → HasDrive w h (Marked s w h) sx sy dx dy
        go (is_in e k) = (has_drive_in w h (Marked s w h) sx sy dx dy).1 k
        go (is_out e n) =
            absurd
            (no_row.1.0
            (record {
              from = record { on = from; free = λ c. no_row.0 (inl c) };
              to = record { on = to; free = λ c. no_row.0 (inr c) };
              none = λ v. n ((has_drive_in w h (Marked s w h) sx sy dx dy).0 v);
            }))

    -- What is written is the chooser's drive.
    pub makes_drive : {z n z' : ℕ} {route route' : List ℕ} → HasDrive w h (Marked s w h) sx sy dx dy → n ≡ dist sx sy dx dy + 1 → n ≤ length route
        → DriveWritten w h g' sx sy dx dy z route route' z' → Makes w h s sx sy dx dy z g g' route route' z' (Ok n)
    makes_drive {z} {n} {z'} {route} v e l k =
        record {
          given = later route _ (inr (λ b. omega arith, refl));
          region_after = region_made (λ b. omega (arith, b.0)) made_sheet;
          route_after = record {
            none = λ b. absurd (b refl);
            kept = λ b. absurd (b refl);
            still = λ b. absurd (b refl);
            long = λ _. e;
            driven = λ _. rw e ((driven_looks w h (Marked s w h) sx sy dx dy g' made_sheet z z' _ v).1 (k.front, k.state));
            rest = λ _. rw e k.rest;
          };
        }
