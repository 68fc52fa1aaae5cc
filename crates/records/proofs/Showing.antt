-- A rock is the crossing of a marker in use that stops the cart, and such a marker stands on a rock:
-- so all rocks are shown closed exactly where all markers in use pass.
use Rattle.std.proofs.Common.{◌≡◌, refl, ◌∙◌, Bool, true, false, List, ◌↔◌, ℕ, ◌<◌, length, take, get_or, arith}
use Rattle.std.specs.Bool.{MatchBool}
use Rattle.std.specs.List.{AllWithin, HoldsAt}
use Rattle.std.proofs.lemmas.List.{get_or-take, get_or_default, length-take-le}
use Rattle.field.specs.declared.Marker.{Marker}
use Rattle.field.specs.Map.{On}
use Rattle.field.specs.Labels.{Rock, blank}
use Rattle.field.specs.Morning.{RocksShown}
use Rattle.markers.specs.List.{slot, WellFormed, in_use_of}
use Rattle.records.specs.Steps.{Passes}

-- Each marker in use stands on the map.
pub used_on : {w h : ℕ} {list : List Marker} {count : ℕ} → WellFormed w h list count → (m : Marker) (k : ℕ) → k < length (take count list)
    → m ≡ get_or (take count list) k m → On w h m.x m.y
used_on {list = list} {count = count} f m k l e =
    let below : k < count = omega (arith, length-take-le count list f.lent) in
    let same : m ≡ slot list k = e ∙ get_or_default (take count list) k m blank l ∙ get_or-take count list k blank below in
    rw same (f.on k below)

pub all_pass : {w h clearance : ℕ} {s : List ℕ} {list : List Marker} {count : ℕ} {r : Bool} → WellFormed w h list count
    → MatchBool r (AllWithin (Passes clearance w s) (take count list) 0 (length (take count list)))
    ((k : ℕ) × (k < length (take count list)) × HoldsAt (λ m. ¬ Passes clearance w s m) (take count list) k)
    → ((r ≡ true) ↔ RocksShown (Rock clearance (in_use_of list count)) w h s)
all_pass {r = true} f a =
    (λ e x y on r. record { on = on; label = rw (← r.x_is, ← r.y_is) (a r.slot blank (omega arith) r.in_use r.stops) }, λ g. refl)
all_pass {list = list} {count = count} {r = false} f (k, l, n) =
    let m = get_or (take count list) k blank in (
      λ e. cc,
      λ g. absurd (n blank (λ stops. (g m.x m.y (used_on f m k l (get_or_default (take count list) k blank m l)) (record { slot = k; in_use = l; x_is = refl; y_is = refl; stops = stops })).label)),
    )
