-- What the first part of a call told is handed on to the second: the map's size, over which the
-- question may be asked and is answered, or a refusal, which the second part hands on in its turn
-- with all that is lent as it was. Each call's promise holds in both cases.
use Rattle.std.proofs.Common.{◌≡◌, refl, Bool, true, false, List, ◌↔◌, ℕ, ◌*◌, length}
use Rattle.std.specs.Prelude.{Result, Ok, Err, IfOk, IsOkAnd, Option, ⊤}
use Rattle.field.specs.declared.Size.{Size}
use Rattle.field.specs.declared.Place.{Place}
use Rattle.field.specs.declared.Hops.{Hops}
use Rattle.field.specs.declared.reasons.Fault.{Fault}
use Rattle.field.specs.declared.refusals.Refusal.{Refusal}
use Rattle.field.specs.Refusals.{told}
use Rattle.calls.specs.Rules.{LentMap}
use Rattle.calls.specs.Calls.{DistancesCall, MeasureCall, AssuredCall, HopCall, RegionCall, DriveCall}
use Rattle.calls.specs.CheckCall.{CheckCall}
use Rattle.calls.specs.HopByCall.{HopByCall}
use Rattle.calls.specs.LinesCall.{LinesCall, LinesDriveCall}
use Rattle.calls.specs.Told.{four, assurance, homeward_of, drove, checked, crossing_lines}
use Rattle.askings.specs.Promise.{AfterFirst, MayAsk, MayAskTwo, MayMeasure, MayDrive, DistancesRest, MeasureRest, AssuredRest, HopRest, RegionRest, DriveRest, CheckRest, LinesRest, LinesDriveRest}
use Rattle.askings.specs.Morning.{MayHopBy, HopByRest}
use Rattle.judging.specs.Judging.{OneFit, FourFit}
use Rattle.layer.specs.Prepared.{Prepared}
use Rattle.layer.specs.Morning.{Looked}
use Rattle.layer.proofs.Joining.{Handed}
use Rattle.layer.proofs.LabelAnswers.{distances_may, distances_refused, distances_joined, measure_may, measure_refused, measure_joined, ends_may, assured_refused, assured_joined, hop_refused, hop_joined, check_refused, check_joined, lines_refused, lines_joined}
use Rattle.layer.proofs.DriveAnswers.{drive_may, region_refused, region_joined, drive_refused, drive_joined, lines_drive_refused, lines_drive_joined}
use Rattle.layer.proofs.Mornings.{looked_fits, hop_by_may, hop_by_refused, hop_by_joined}

handed : {A : Type 0} {e : Refusal} {r : Result A Refusal} → r ≡ Err e → Handed e r
handed q = rw q (refl, refl)

-- first is what the first part told, s the label sheet that it left, and t the one that the second
-- part leaves.
module _ {m : LentMap} {labels s : List ℕ} where
  module _ {x y : ℕ} where
    pub distances_asked : (first : Result Size Refusal) → Prepared m false x y x y true labels s first → IfOk first (λ map. MayAsk map.w map.h x y s)
    distances_asked (Ok map) p = distances_may p
    distances_asked (Err e) p = tt

    pub distances_answered : {t : List ℕ} (first : Result Size Refusal) (r : Result (List ℕ) Refusal) → Prepared m false x y x y true labels s first
        → AfterFirst first (λ map. IsOkAnd r (λ l. DistancesRest map.w map.h x y s t l)) (t ≡ s) r → DistancesCall m x y labels t (four r)
    distances_answered (Ok map) (Ok l) p k = distances_joined p k
    distances_answered (Ok map) (Err e) p k = absurd k
    distances_answered (Err e) r p k = rw k.1 (distances_refused p r (handed k.0))

  module _ {hx hy x y : ℕ} where
    pub ends_asked : (first : Result Size Refusal) → Prepared m false hx hy x y true labels s first → IfOk first (λ map. MayAskTwo map.w map.h hx hy x y s)
    ends_asked (Ok map) p = ends_may p
    ends_asked (Err e) p = tt

    pub assured_answered : {t : List ℕ} (first : Result Size Refusal) (r : Result Bool Refusal) → Prepared m false hx hy x y true labels s first
        → AfterFirst first (λ map. AssuredRest map.w map.h hx hy x y s t r) (t ≡ s) r → AssuredCall m hx hy x y labels t (assurance r)
    assured_answered (Ok map) r p k = assured_joined p r k
    assured_answered (Err e) r p k = rw k.1 (assured_refused p r (handed k.0))

    pub hop_answered : {t : List ℕ} (first : Result Size Refusal) (r : Result Hops Refusal) → Prepared m false hx hy x y true labels s first
        → AfterFirst first (λ map. HopRest map.w map.h hx hy x y s t r) (t ≡ s) r → HopCall m hx hy x y labels t (homeward_of r)
    hop_answered (Ok map) r p k = hop_joined p r k
    hop_answered (Err e) r p k = rw k.1 (hop_refused p r (handed k.0))

    pub check_answered : {drawn t : List ℕ} (first : Result Size Refusal) (r : Result (Result Unit Fault) Refusal) → Prepared m false hx hy x y true labels s first
        → AfterFirst first (λ map. CheckRest map.w map.h hx hy x y s drawn t r) (t ≡ s) r → CheckCall m hx hy x y labels drawn t (checked r)
    check_answered (Ok map) r p k = check_joined p r k
    check_answered (Err e) r p k = rw k.1 (check_refused p r (handed k.0))

    pub lines_answered : {t : List ℕ} (first : Result Size Refusal) (r : Result (Option Place) Refusal) → Prepared m false hx hy x y true labels s first
        → AfterFirst first (λ map. LinesRest map.w map.h hx hy x y s t r) (t ≡ s) r → LinesCall m hx hy x y labels t (crossing_lines r)
    lines_answered (Ok map) r p k = lines_joined p r k
    lines_answered (Err e) r p k = rw k.1 (lines_refused p r (handed k.0))

  -- The four other lent sheets are e, d, f and u.
  module _ {others : Bool} (e d f u : List ℕ) (fit : (others ≡ true) ↔ FourFit m.width m.height (length e) (length d) (length f) (length u)) where
    pub measure_asked : (first : Result Size Refusal) → Prepared m false 0 0 0 0 others labels s first → IfOk first (λ map. MayMeasure map.w map.h s e d f u)
    measure_asked (Ok map) p = measure_may p fit
    measure_asked (Err z) p = tt

    pub measure_answered : {t e' d' f' u' : List ℕ} (first : Result Size Refusal) (r : Result Unit Refusal) → Prepared m false 0 0 0 0 others labels s first
        → AfterFirst first (λ map. IsOkAnd r (λ _. MeasureRest map.w map.h s t e' d' f' u')) ((t ≡ s) × (e' ≡ e) × (d' ≡ d) × (f' ≡ f) × (u' ≡ u)) r
        → MeasureCall m labels e d f u t e' d' f' u' (told r)
    measure_answered (Ok map) (Ok _) p k = measure_joined p fit k
    measure_answered (Ok map) (Err z) p k = absurd k
    measure_answered (Err z) r p (h, (t, k, l, n, o)) = rw (t, k, l, n, o) (measure_refused p fit r (handed h))

  -- The region's sheet is g.
  module _ {sx sy dx dy : ℕ} {others : Bool} (g : List ℕ) (fit : (others ≡ true) ↔ OneFit m.width m.height (length g)) where
    pub drive_asked : (first : Result Size Refusal) → Prepared m false sx sy dx dy others labels s first → IfOk first (λ map. MayDrive map.w map.h sx sy dx dy s g)
    drive_asked (Ok map) p = drive_may fit p
    drive_asked (Err e) p = tt

    pub region_answered : {t g' : List ℕ} (first : Result Size Refusal) (r : Result Unit Refusal) → Prepared m false sx sy dx dy others labels s first
        → AfterFirst first (λ map. RegionRest map.w map.h sx sy dx dy s g t g' r) ((t ≡ s) × (g' ≡ g)) r → RegionCall m sx sy dx dy labels g t g' (told r)
    region_answered (Ok map) r p k = region_joined fit p r k
    region_answered (Err e) r p (h, (t, k)) = rw (t, k) (region_refused fit p r (handed h))

    module _ {route t g' route' : List ℕ} {z z' : ℕ} where
      pub drive_answered : (first : Result Size Refusal) (r : Result ℕ Refusal) → Prepared m false sx sy dx dy others labels s first
          → AfterFirst first (λ map. DriveRest map.w map.h sx sy dx dy s g route z t g' route' z' r) ((t ≡ s) × (g' ≡ g) × (route' ≡ route) × (z' ≡ z)) r
          → DriveCall m sx sy dx dy labels g route z t g' route' z' (drove r)
      drive_answered (Ok map) r p k = drive_joined fit p r k
      drive_answered (Err e) r p (h, (t, k, l, n)) = rw (t, k, l, n) (drive_refused fit p r (handed h))

      pub lines_drive_answered : (first : Result Size Refusal) (r : Result ℕ Refusal) → Prepared m false sx sy dx dy others labels s first
          → AfterFirst first (λ map. LinesDriveRest map.w map.h sx sy dx dy s g route z t g' route' z' r) ((t ≡ s) × (g' ≡ g) × (route' ≡ route) × (z' ≡ z)) r
          → LinesDriveCall m sx sy dx dy labels g route z t g' route' z' (drove r)
      lines_drive_answered (Ok map) r p k = lines_drive_joined fit p r k
      lines_drive_answered (Err e) r p (h, (t, k, l, n)) = rw (t, k, l, n) (lines_drive_refused fit p r (handed h))

-- The hop by a morning sheet.
module _ {m : LentMap} {hx hy x y : ℕ} {sheet : List ℕ} where
  pub hop_by_asked : (first : Result Size Refusal) → Looked m hx hy x y sheet first
      → IfOk first (λ map. (length sheet ≡ map.h * map.w) × MayHopBy map.w map.h hx hy x y)
  hop_by_asked (Ok map) l = (looked_fits l, hop_by_may l)
  hop_by_asked (Err e) l = tt

  pub hop_by_answered : (first : Result Size Refusal) (r : Result Hops Refusal) → Looked m hx hy x y sheet first
      → AfterFirst first (λ map. HopByRest map.w map.h hx hy x y sheet r) ⊤ r → HopByCall m hx hy x y sheet (homeward_of r)
  hop_by_answered (Ok map) r l k = hop_by_joined l r k
  hop_by_answered (Err e) r l k = hop_by_refused r l (handed k.0)
