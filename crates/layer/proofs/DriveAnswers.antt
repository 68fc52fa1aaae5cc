-- Region and drive: what is answered over a stamped sheet is what the call promises of the list;
-- and so is a refusal of the first part.
use Rattle.std.proofs.Common.{◌≡◌, Bool, true, false, List, [], ◌∷◌, ◌↔◌, inl, ℕ, ◌≤◌, length, arith}
use Rattle.std.proofs.Math.Decide.{ℕ_discrete, dec_le}
use Rattle.std.specs.Prelude.{Result, Ok, Err}
use Rattle.field.specs.declared.Size.{Size}
use Rattle.field.specs.declared.refusals.Refusal.{Refusal}
use Rattle.field.specs.Refusals.{told}
use Rattle.calls.specs.Rules.{LentMap, ClosedBy, region_rows, drive_rows, drive_table}
use Rattle.calls.specs.declared.Drove.{Drove}
use Rattle.calls.specs.RuleLaws.{gives_none, holds}
use Rattle.calls.specs.AfterLaws.{region_kept, route_kept, lines_region_kept, joined_kept}
use Rattle.calls.specs.SameLaws.{region_after_same, route_after_same, region_rows_same, drive_rows_same}
use Rattle.calls.specs.SameLaws.{lines_region_after_same, joined_after_same, lines_drive_rows_same}
use Rattle.calls.specs.Answers.{RegionAfter, RouteAfter}
use Rattle.calls.specs.Calls.{RegionCall, DriveCall}
use Rattle.calls.specs.LinesCall.{LinesDriveCall, LinesRegionAfter, JoinedAfter, lines_drive_rows, lines_drive_table}
use Rattle.calls.specs.Told.{drove}
use Rattle.askings.specs.Promise.{made_length, joined_length, ClosedOn, MayDrive, RegionRest, DriveRest, LinesDriveRest}
use Rattle.judging.specs.Judging.{OneFit}
use Rattle.layer.specs.Prepared.{Prepared}
use Rattle.layer.proofs.Tables.{not_no}
use Rattle.layer.proofs.Joining.{Handed, Answered, some_number, one_tells, two_refused, two_joined, others_good, first_good, second_good, on_lent, on_map, sheet_stamped, closed_alike, early_told}

module _ {m : LentMap} {sx sy dx dy : ℕ} {labels t g g' route route' : List ℕ} {z z' : ℕ} where
  drive_call : (r : Result ℕ Refusal) → Answered m (drive_table m sx sy dx dy labels g route) labels t (told r)
      → RegionAfter m.width m.height (ClosedBy m) sx sy dx dy (told r) g g'
      → RouteAfter m.width m.height (ClosedBy m) sx sy dx dy (told r) (made_length r) route z route' z'
      → DriveCall m sx sy dx dy labels g route z t g' route' z' (drove r)
  drive_call (Ok n) q k l = record { given = q.given; labels_after = q.labels_after; region_after = k; route_after = l }
  drive_call (Err e) q k l = record { given = q.given; labels_after = q.labels_after; region_after = k; route_after = l }

  lines_drive_call : (r : Result ℕ Refusal) → Answered m (lines_drive_table m sx sy dx dy labels g route) labels t (told r)
      → LinesRegionAfter m.width m.height (ClosedBy m) sx sy dx dy (told r) g g'
      → JoinedAfter m.width m.height (ClosedBy m) sx sy dx dy (told r) (joined_length r) route z route' z'
      → LinesDriveCall m sx sy dx dy labels g route z t g' route' z' (drove r)
  lines_drive_call (Ok n) q k l = record { given = q.given; labels_after = q.labels_after; region_after = k; route_after = l }
  lines_drive_call (Err e) q k l = record { given = q.given; labels_after = q.labels_after; region_after = k; route_after = l }

module _ {m : LentMap} {sx sy dx dy : ℕ} {others : Bool} {labels s g : List ℕ} (fit : (others ≡ true) ↔ OneFit m.width m.height (length g)) where
  -- A refusal of the first part, handed on.
  module _ {e : Refusal} (p : Prepared m false sx sy dx dy others labels s (Err e)) where
    pub region_refused : (r : Result Unit Refusal) → Handed e r → RegionCall m sx sy dx dy labels g s g (told r)
    region_refused r f =
        let q = two_refused (g ∷ []) (one_tells g fit) (region_rows m.width m.height (ClosedBy m) sx sy dx dy) r p f in
        let k = early_told r p f in
        record { given = q.given; labels_after = q.labels_after; region_after = region_kept (k.0, omega (arith, k.1)) }

    pub drive_refused : {route : List ℕ} {z : ℕ} (r : Result ℕ Refusal) → Handed e r
        → DriveCall m sx sy dx dy labels g route z s g route z (drove r)
    drive_refused {route} {z} r f =
        let k = early_told r p f in
        drive_call r (two_refused (g ∷ []) (one_tells g fit) (drive_rows m.width m.height (ClosedBy m) sx sy dx dy route) r p f) (region_kept (k.0, omega (arith, k.1))) (by_refusal r k.0)
      where
        by_refusal : (r : Result ℕ Refusal) → 1 ≤ told r → RouteAfter m.width m.height (ClosedBy m) sx sy dx dy (told r) (made_length r) route z route z
        by_refusal (Ok n) k = absurd (omega arith)
        by_refusal (Err e) k = route_kept (some_number e)

    pub lines_drive_refused : {route : List ℕ} {z : ℕ} (r : Result ℕ Refusal) → Handed e r
        → LinesDriveCall m sx sy dx dy labels g route z s g route z (drove r)
    lines_drive_refused {route} {z} r f =
        let k = early_told r p f in
        lines_drive_call r (two_refused (g ∷ []) (one_tells g fit) (lines_drive_rows m.width m.height (ClosedBy m) sx sy dx dy route) r p f) (lines_region_kept (inl (k.0, omega (arith, k.1)))) (by_refusal r k.0)
      where
        by_refusal : (r : Result ℕ Refusal) → 1 ≤ told r → JoinedAfter m.width m.height (ClosedBy m) sx sy dx dy (told r) (joined_length r) route z route z
        by_refusal (Ok n) k = absurd (omega arith)
        by_refusal (Err e) k = joined_kept (some_number e)

  -- What the second part answers.
  module _ {map : Size} (p : Prepared m false sx sy dx dy others labels s (Ok map)) where
    pub drive_may : MayDrive map.w map.h sx sy dx dy s g
    drive_may =
        on_map p (λ w h. MayDrive w h sx sy dx dy s g)
        (record {
          asked = record { stamped = sheet_stamped p; from = first_good p; to = second_good p };
          size = (fit.0 (not_no others (others_good p))).size;
        })

    pub region_joined : {t g' : List ℕ} (r : Result Unit Refusal) → RegionRest map.w map.h sx sy dx dy s g t g' r → RegionCall m sx sy dx dy labels g t g' (told r)
    region_joined {t} {g'} r e =
        let k = on_lent p (λ w h. RegionRest w h sx sy dx dy s g t g' r) e in
        let alike = closed_alike p in
        let q = two_joined (g ∷ []) (one_tells g fit) p (region_rows m.width m.height (ClosedOn m.width m.height s) sx sy dx dy)
        (region_rows m.width m.height (ClosedBy m) sx sy dx dy) (omega arith) (region_rows_same m.width m.height alike) k.given k.sheet in
        record { given = q.given; labels_after = q.labels_after; region_after = region_after_same _ _ (λ _. alike) k.region_after }

    pub drive_joined : {route t g' route' : List ℕ} {z z' : ℕ} (r : Result ℕ Refusal)
        → DriveRest map.w map.h sx sy dx dy s g route z t g' route' z' r → DriveCall m sx sy dx dy labels g route z t g' route' z' (drove r)
    drive_joined {route} {t} {g'} {route'} {z} {z'} r e =
        let k = on_lent p (λ w h. DriveRest w h sx sy dx dy s g route z t g' route' z' r) e in
        let alike = closed_alike p in
        drive_call r (two_joined (g ∷ []) (one_tells g fit) p (drive_rows m.width m.height (ClosedOn m.width m.height s) sx sy dx dy route)
        (drive_rows m.width m.height (ClosedBy m) sx sy dx dy route) (omega arith) (drive_rows_same m.width m.height alike route) k.given k.sheet)
        (region_after_same _ _ (λ _. alike) k.region_after) (route_after_same _ _ (λ _. alike) k.route_after)

    pub lines_drive_joined : {route t g' route' : List ℕ} {z z' : ℕ} (r : Result ℕ Refusal)
        → LinesDriveRest map.w map.h sx sy dx dy s g route z t g' route' z' r → LinesDriveCall m sx sy dx dy labels g route z t g' route' z' (drove r)
    lines_drive_joined {route} {t} {g'} {route'} {z} {z'} r e =
        let k = on_lent p (λ w h. LinesDriveRest w h sx sy dx dy s g route z t g' route' z' r) e in
        let alike = closed_alike p in
        lines_drive_call r (two_joined (g ∷ []) (one_tells g fit) p (lines_drive_rows m.width m.height (ClosedOn m.width m.height s) sx sy dx dy route)
        (lines_drive_rows m.width m.height (ClosedBy m) sx sy dx dy route) (omega arith) (lines_drive_rows_same m.width m.height alike route) k.given k.sheet)
        (lines_region_after_same _ _ (λ _. alike) k.region_after) (joined_after_same _ _ (λ _. alike) k.route_after)

-- What a drive fills is no longer than the route: at a refusal it is nothing, and else row 10 does
-- not apply.
pub drove_within : {m : LentMap} {sx sy dx dy z z' : ℕ} {labels g route labels' g' route' : List ℕ} {r : Drove}
    → DriveCall m sx sy dx dy labels g route z labels' g' route' z' r → r.length ≤ length route
drove_within {m} {sx} {sy} {dx} {dy} {labels = labels} {g = g} {route = route} {r = r} c = go (ℕ_discrete r.refusal 0)
  where
    go : Dec (r.refusal ≡ 0) → r.length ≤ length route
    go (no f) = omega (arith, c.route_after.none f)
    go (yes k) =
        let none = gives_none (drive_table m sx sy dx dy labels g route) 0 r.refusal (omega arith) c.given k in
        holds (dec_le _ _) (λ f. none.1.1.1.1.1.1.0 (omega (arith, c.route_after.long k)))
