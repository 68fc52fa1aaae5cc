-- The drive whose part is handed back, beside the one that answers a length: from the same input
-- the part is the front of the route that the other leaves, and begins where it begins, with the
-- same number, state and sheets.
use Rattle.std.specs.Prelude.{◌≡◌, refl, List, ℕ, take}
use Rattle.std.proofs.Common.{ap}
use Rattle.calls.specs.Rules.{LentMap}
use Rattle.calls.specs.Calls.{DriveCall, RouteCall}
use Rattle.calls.proofs.Outcome.{route_one}
use Rattle.calls.specs.declared.Drove.{Drove}

module _ {m : LentMap} {sx sy dx dy : ℕ} {labels region route labels' region' route' : List ℕ} {state state' : ℕ} {r : Drove}
    (c : DriveCall m sx sy dx dy labels region route state labels' region' route' state' r) where
  -- The front of the route, as long as the answer says, is the part that may be handed back.
  pub drive_part : (from : ℕ × ℕ) → RouteCall m sx sy dx dy labels region route state labels' region' (take r.length route') r.refusal state' from from
  drive_part from =
      record {
        given = c.given;
        labels_after = c.labels_after;
        region_after = c.region_after;
        empty = λ f. ap (λ (n : ℕ). take n route') (c.route_after.none f);
        still = c.route_after.still;
        driven = c.route_after.driven;
        leading = refl;
      }

  -- And no other part may be.
  pub route_leads : {labels'' region'' part : List ℕ} {number state'' : ℕ} {from at : ℕ × ℕ}
      → RouteCall m sx sy dx dy labels region route state labels'' region'' part number state'' from at
      → (part ≡ take r.length route') × (number ≡ r.refusal) × (state'' ≡ state') × (labels'' ≡ labels') × (region'' ≡ region') × (at ≡ from)
  route_leads {from = from} p = route_one p (drive_part from)
