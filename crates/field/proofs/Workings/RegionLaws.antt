-- The region: a crossing is on a shortest drive exactly if it has a shortest drive from s and one
-- to d, and the two together are no detour. A shortest drive splits at the crossing into two
-- shortest ones, and two such join.
use Rattle.std.specs.Prelude.{◌≡◌, refl, List, ◌++◌, ◌↔◌, ℕ, suc, ◌+◌, ◌<◌, length, take, drop}
use Rattle.std.proofs.Common.{sym, ◌∙◌, arith, length-drop, length-take-le}
use Rattle.std.proofs.Math.ListN.{get_or-append}
use Rattle.field.specs.Map.{On, at, Near, dist}
use Rattle.field.specs.Drives.{Drive, HasDrive, InRegion, InOut, is_in, is_out, RegionSheet}
use Rattle.field.specs.Workings.Sheet.{Marked, Draws, sheet_same}
use Rattle.field.proofs.Workings.GridLaws.{dist_detour, dist_turned, dist_none, near_turned, hop_le, number_one}
use Rattle.field.proofs.Workings.DriveLaws.{there, hop, drive_from, drive_to, drive_open, drive_long, drive_end, drive_join, drive_join_length, drive_split, has_drive_open, has_drive_turned, has_drive_step}

-- (x, y) has a shortest drive from s and one to d, and the two together are no detour.
pub record Between (w h : ℕ) (C : ℕ → ℕ → Type 0) (sx sy dx dy x y : ℕ) : Type 0 where
  pub on : On w h x y
  pub direct : dist sx sy x y + dist x y dx dy ≡ dist sx sy dx dy
  pub before : HasDrive w h C sx sy x y
  pub after : HasDrive w h C x y dx dy

module _ (w h : ℕ) (C : ℕ → ℕ → Type 0) (sx sy dx dy : ℕ) where
  -- The two parts of a shortest drive are as short as can be: together they have no more hops than
  -- the distance.
  split_between : {x y : ℕ} (l : List ℕ) (i : ℕ) → i < length l → length l ≡ dist sx sy dx dy + 1 → On w h x y
      → Drive w h C x y sx sy (take (suc i) l) → Drive w h C dx dy x y (drop i l) → Between w h C sx sy dx dy x y
  split_between {x} {y} l i b e o v u =
      let f : (i ≡ dist sx sy x y) × (dist sx sy x y + dist x y dx dy ≡ dist sx sy dx dy) =
      omega (arith, drive_long w h C v, drive_long w h C u, length-take-le (suc i) l b, length-drop i l, dist_detour sx sy x y dx dy) in
      record {
        on = o;
        direct = f.1;
        before = record { route = take (suc i) l; shortest = record { drive = v; hops = omega (arith, f, length-take-le (suc i) l b) } };
        after = record { route = drop i l; shortest = record { drive = u; hops = omega (arith, f, length-drop i l) } };
      }

  region_between : {x y : ℕ} → InRegion w h C sx sy dx dy x y → Between w h C sx sy dx dy x y
  region_between r =
      let k = drive_split w h C r.shortest.drive r.place r.in_route in
      let s = number_one r.on (drive_open w h C k.after).on (sym k.is_there ∙ r.is_there) in
      let v = drive_to w h C s.0 s.1 k.before in
      let u = drive_from w h C s.0 s.1 k.after in
      split_between r.route r.place r.in_route r.shortest.hops r.on v u

  between_region : {x y : ℕ} → Between w h C sx sy dx dy x y → InRegion w h C sx sy dx dy x y
  between_region {x} {y} b =
      let l = b.before.route in
      let m = b.after.route in
      let v : Drive w h C x y sx sy l = b.before.shortest.drive in
      let u : Drive w h C dx dy x y m = b.after.shortest.drive in
      let f : dist sx sy x y < length l = omega (arith, b.before.shortest.hops) in
      record {
        on = b.on;
        route = l ++ drop 1 m;
        shortest =
            record {
              drive = drive_join w h C v u;
              hops = omega (arith, drive_join_length w h C v u, b.before.shortest.hops, b.after.shortest.hops, b.direct);
            };
        place = dist sx sy x y;
        in_route = omega (arith, drive_join_length w h C v u, b.before.shortest.hops, b.after.shortest.hops);
        is_there = get_or-append l (drop 1 m) 0 (dist sx sy x y) f ∙ drive_end w h C v (dist sx sy x y) b.before.shortest.hops;
      }

  -- A crossing is in the region exactly if it lies between s and d so.
  pub region_split : {x y : ℕ} → InRegion w h C sx sy dx dy x y ↔ Between w h C sx sy dx dy x y
  region_split = (region_between, between_region)

  -- There is a shortest drive exactly if s is in the region.
  pub has_drive_in : HasDrive w h C sx sy dx dy ↔ InRegion w h C sx sy dx dy sx sy
  has_drive_in = (into, λ r. (region_between r).after)
    where
      into : HasDrive w h C sx sy dx dy → InRegion w h C sx sy dx dy sx sy
      into r =
          let o = has_drive_open w h C r in
          between_region
          (record {
            on = o.on;
            direct = omega (arith, dist_none {x = sx} {y = sy} refl refl);
            before = (has_drive_step w h C).1 (there o refl refl);
            after = r;
          })

  -- From a crossing of the region, a hop nearer d to a crossing that has a shortest drive to d
  -- stays in the region.
  pub region_hop : {x y a b : ℕ} → InRegion w h C sx sy dx dy x y → Near x y a b → dist a b dx dy + 1 ≡ dist x y dx dy → HasDrive w h C a b dx dy
      → InRegion w h C sx sy dx dy a b
  region_hop {x} {y} {a} {b} r n e v =
      let k = region_between r in
      let f : dist x y sx sy + 1 ≡ dist a b sx sy =
      omega (arith, k.direct, hop_le sx sy n, dist_detour sx sy a b dx dy, dist_turned x y sx sy, dist_turned a b sx sy) in
      let o = has_drive_open w h C v in
      between_region
      (record {
        on = o.on;
        direct = omega (arith, k.direct, dist_turned x y sx sy, dist_turned a b sx sy);
        before = has_drive_turned w h C ((has_drive_step w h C).1 (hop x y o (near_turned n) f (has_drive_turned w h C k.before)));
        after = v;
      })

-- What stands on a region sheet is decided by what it stands for.
in-out-one : {P : Type 0} {u v : ℕ} → InOut P u → InOut P v → u ≡ v
in-out-one (is_in e p) (is_in f q) = omega arith
in-out-one (is_in e p) (is_out f q) = absurd (q p)
in-out-one (is_out e p) (is_in f q) = absurd (p q)
in-out-one (is_out e p) (is_out f q) = omega arith

module _ (w h : ℕ) (C : ℕ → ℕ → Type 0) (sx sy dx dy : ℕ) where
  -- There is one region sheet.
  pub region_sheet_one : {s t : List ℕ} → RegionSheet w h C sx sy dx dy s → RegionSheet w h C sx sy dx dy t → s ≡ t
  region_sheet_one {s} {t} p q = sheet_same w h s t p.size q.size (λ x y o. in-out-one (p.region x y o) (q.region x y o))

  -- A region sheet's marks are the region.
  pub region_sheet_draws : {g : List ℕ} → RegionSheet w h C sx sy dx dy g → Draws w h (InRegion w h C sx sy dx dy) g
  region_sheet_draws {g} s = record { sound = λ x y m. marked (s.region x y m.on) m.mark; complete = λ x y r. mark r (s.region x y r.on) }
    where
      marked : {x y : ℕ} → InOut (InRegion w h C sx sy dx dy x y) (at g w x y) → 0 < at g w x y → InRegion w h C sx sy dx dy x y
      marked (is_in e r) l = r
      marked (is_out e n) l = absurd (omega arith)

      mark : {x y : ℕ} → InRegion w h C sx sy dx dy x y → InOut (InRegion w h C sx sy dx dy x y) (at g w x y) → Marked g w h x y
      mark r (is_in e k) = record { on = r.on; mark = omega arith }
      mark r (is_out e n) = absurd (n r)
