-- Where home is assured, the place has a shortest drive home: the permitted hops that lead home make one. C is any
-- stable set of crossings on the map.
use Rattle.std.specs.Prelude.{◌≡◌, refl, List, [], ◌∷◌, ◌++◌, ℕ, ◌+◌, length}
use Rattle.std.proofs.Common.{sym, arith}
use Rattle.field.specs.Map.{Sides, OnMap, number, dist}
use Rattle.field.specs.Labels.{Stable, Open}
use Rattle.field.specs.Distances.{Assured}
use Rattle.field.specs.Hops.{Permitted, Taken, none, hop}
use Rattle.field.specs.Drives.{Drive, last, next, HasDrive}
use Rattle.field.proofs.Workings.DriveLaws.{drive_to, drive_join, drive_join_length}
use Rattle.field.proofs.Geometry.WayHome.{taken_continues, taken_open}

-- A drive from (x, y) to (a, b) with n hops.
pub record DriveOf (w h : ℕ) (C : ℕ → ℕ → Type 0) (x y n a b : ℕ) : Type 0 where
  pub route : List ℕ
  pub drive : Drive w h C a b x y route
  pub hops : length route ≡ n + 1

module _ {w h : ℕ} {C : ℕ → ℕ → Type 0} {hx hy : ℕ} where
  -- One permitted hop is a drive of two crossings.
  hop_drive : {a b c d : ℕ} → Open w h C a b → Permitted w h C hx hy a b c d → Drive w h C c d a b (number w a b ∷ number w c d ∷ [])
  hop_drive o k = next o k.near (last refl refl k.to refl) refl

  -- Permitted hops, one after the other, make a drive.
  pub taken_drive : {x y n a b : ℕ} → Open w h C x y → Taken w h C hx hy x y n a b → DriveOf w h C x y n a b
  taken_drive {x} {y} o (none e p q) =
      record { route = number w x y ∷ []; drive = drive_to w h C (sym p) (sym q) (last refl refl o refl); hops = omega arith }
  taken_drive {x} {y} o (hop {a} {b} {c} {d} l k e) =
      let v : DriveOf w h C x y _ a b = taken_drive o l in
      let u : Drive w h C c d a b (number w a b ∷ number w c d ∷ []) = hop_drive (taken_open o l) k in
      record {
        route = v.route ++ (number w c d ∷ []);
        drive = drive_join w h C v.drive u;
        hops = omega (arith, v.hops, drive_join_length w h C v.drive u);
      }

-- An assured place has a shortest drive home.
pub assured_drive : (w h : ℕ) → Sides w h → (C : ℕ → ℕ → Type 0) → OnMap w h C → Stable w h C → ((x y : ℕ) → Dec (C x y))
    → {hx hy x y : ℕ} → Assured w h C hx hy x y → HasDrive w h C x y hx hy
assured_drive w h sides C on st dec {hx} {hy} {x} {y} s =
    let t : Taken w h C hx hy x y (dist x y hx hy) hx hy = taken_continues w h sides C on st dec hx hy s (none refl refl refl) in
    let v : DriveOf w h C x y (dist x y hx hy) hx hy = taken_drive s.place t in
    record { route = v.route; shortest = record { drive = v.drive; hops = v.hops } }
