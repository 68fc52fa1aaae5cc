-- "A clearance of 65,535 opens the whole map" (document 02, Req 08), in the calls' own terms: every
-- label is 0, and no asking that labels is refused 8. For no marker is higher than that: so there
-- is no rock for such a cart, and without rocks nothing is closed. What holds of any one cart's
-- rocks, demand 3 and a journey by one clearance, is in Demands.
use Rattle.std.specs.Prelude.{◌≡◌, List, [], ◌∷◌, ℕ}
use Rattle.std.proofs.Common.{sym, inl, inr, arith}
use Rattle.field.specs.Map.{at, tallest}
use Rattle.field.specs.Refusals.{end_closed}
use Rattle.field.specs.Labels.{Open, Label, is_open, is_rock, is_shut}
use Rattle.field.proofs.Geometry.Theorems.{no_rocks_none_closed}
use Rattle.field.proofs.Workings.Counting.{count_none}
use Rattle.markers.proofs.Laws.Rocks.{rock_stands}
use Rattle.calls.specs.Rules
use Rattle.calls.specs.Rules.{Rule, Gives, LentMap, OnIt, RocksOf, ClosedBy, AnEndClosed}
use Rattle.calls.specs.RuleLaws.{Unlisted, gives_listed}
use Rattle.calls.specs.Answers.{Early, LabelsAfter}
use Rattle.calls.specs.Calls.{LabelCall, AssuredCall, HopCall, RegionCall, DriveCall, RouteCall}
use Rattle.calls.specs.CheckCall.{CheckCall}
use Rattle.calls.specs.LinesCall.{lines_rule, LinesCall, LinesDriveCall}
use Rattle.calls.specs.declared.Labelling.{Labelling}
use Rattle.calls.specs.declared.Assurance.{Assurance}
use Rattle.calls.specs.declared.Homeward.{Homeward}
use Rattle.calls.specs.declared.Drove.{Drove}
use Rattle.calls.specs.declared.Checked.{Checked}
use Rattle.calls.specs.declared.CrossingLines.{CrossingLines}
use Rattle.calls.specs.ClearanceCalls.{HeightsFit}

module _ (m : LentMap) (heights : HeightsFit m) (highest : m.clearance ≡ tallest) where
  highest_no_rock : (x y : ℕ) → ¬ RocksOf m x y
  highest_no_rock x y r =
      let s = rock_stands m.clearance m.list m.count x y r in
      omega (arith, s.such, heights s.place s.below)

  highest_none_closed : (x y : ℕ) → ¬ ClosedBy m x y
  highest_none_closed = no_rocks_none_closed (RocksOf m) m.width m.height (λ x y o. highest_no_rock x y)

  -- Every crossing is open.
  pub highest_open : (x y : ℕ) → OnIt m x y → Open m.width m.height (ClosedBy m) x y
  highest_open x y o = record { on = o; free = highest_none_closed x y }

  -- Every label is 0, on every label sheet that an asking fills; and the label call counts nothing.
  pub highest_labels : {n : ℕ} {labels labels' : List ℕ} → LabelsAfter (RocksOf m) m.width m.height n labels labels' → ¬ Early n
      → (x y : ℕ) → OnIt m x y → at labels' m.width x y ≡ 0
  highest_labels {labels' = labels'} l late x y o = go ((l.labelled late).label x y o)
    where
      go : Label (RocksOf m) m.width m.height x y (at labels' m.width x y) → at labels' m.width x y ≡ 0
      go (is_open e k) = e
      go (is_rock e r) = absurd (highest_no_rock x y r.stone)
      go (is_shut e t) = absurd (highest_none_closed x y t.closed)

  pub highest_numbers : {labels labels' : List ℕ} {r : Labelling} → LabelCall m labels labels' r → r.refusal ≡ 0
      → (r.rocks ≡ 0) × (r.shut ≡ 0) × (r.groups ≡ 0)
  highest_numbers c z =
      let n = c.done z in (
        count_none m.width m.height (λ x y r. highest_no_rock x y r.stone) n.rocks,
        count_none m.width m.height (λ x y t. highest_none_closed x y t.closed) n.shut,
        count_none m.width m.height (λ x y l. highest_none_closed x y l.closed) n.groups,
      )

  -- No end is closed: so the row of 8 never applies.
  ends_open : (sheets : List (List ℕ)) (x y a b : ℕ) (later : List Rule) → Unlisted end_closed later → {n : ℕ}
      → Gives (Rules.asking_table m sheets (Rules.places_rule m x y a b ∷ Rules.ends_rule (ClosedBy m) x y a b ∷ later)) n → ¬ (n ≡ end_closed)
  ends_open sheets x y a b later u (inl p) e = omega (arith, p.1)
  ends_open sheets x y a b later u (inr (_, inl p)) e = omega (arith, p.1)
  ends_open sheets x y a b later u (inr (_, inr (_, inl p))) e = omega (arith, p.1)
  ends_open sheets x y a b later u (inr (_, inr (_, inr (_, inl p)))) e = omega (arith, p.1)
  ends_open sheets x y a b later u (inr (_, inr (_, inr (_, inr (_, inl p))))) e = closed p.0
    where
      closed : AnEndClosed (ClosedBy m) x y a b → ⊥
      closed (inl c) = highest_none_closed x y c
      closed (inr c) = highest_none_closed a b c
  ends_open sheets x y a b later u {n} (inr (_, inr (_, inr (_, inr (_, inr p))))) e = gives_listed later end_closed n u p.1 (sym e)

  pub highest_assured : {hx hy x y : ℕ} {labels labels' : List ℕ} {r : Assurance} → AssuredCall m hx hy x y labels labels' r → ¬ (r.refusal ≡ end_closed)
  highest_assured {hx} {hy} {x} {y} {labels} c = ends_open (labels ∷ []) hx hy x y [] (omega arith) c.given

  pub highest_hop : {hx hy x y : ℕ} {labels labels' : List ℕ} {r : Homeward} → HopCall m hx hy x y labels labels' r → ¬ (r.refusal ≡ end_closed)
  highest_hop {hx} {hy} {x} {y} {labels} c =
      ends_open (labels ∷ []) hx hy x y (Rules.assured_rule m.width m.height (ClosedBy m) hx hy x y ∷ []) (omega arith) c.given

  pub highest_region : {sx sy dx dy : ℕ} {labels region labels' region' : List ℕ} {r : ℕ} → RegionCall m sx sy dx dy labels region labels' region' r
      → ¬ (r ≡ end_closed)
  highest_region {sx} {sy} {dx} {dy} {labels} {region} c =
      ends_open (labels ∷ region ∷ []) sx sy dx dy (Rules.drive_rule m.width m.height (ClosedBy m) sx sy dx dy ∷ []) (omega arith) c.given

  pub highest_drive : {sx sy dx dy : ℕ} {labels region route labels' region' route' : List ℕ} {state state' : ℕ} {r : Drove}
      → DriveCall m sx sy dx dy labels region route state labels' region' route' state' r → ¬ (r.refusal ≡ end_closed)
  highest_drive {sx} {sy} {dx} {dy} {labels} {region} {route} c =
      ends_open (labels ∷ region ∷ []) sx sy dx dy (Rules.drive_rule m.width m.height (ClosedBy m) sx sy dx dy ∷ Rules.route_rule sx sy dx dy route ∷ []) (omega arith) c.given

  pub highest_route : {sx sy dx dy : ℕ} {labels region route labels' region' part : List ℕ} {state number state' : ℕ} {from to : ℕ × ℕ}
      → RouteCall m sx sy dx dy labels region route state labels' region' part number state' from to → ¬ (number ≡ end_closed)
  highest_route {sx} {sy} {dx} {dy} {labels} {region} {route} c =
      ends_open (labels ∷ region ∷ []) sx sy dx dy (Rules.drive_rule m.width m.height (ClosedBy m) sx sy dx dy ∷ Rules.route_rule sx sy dx dy route ∷ []) (omega arith) c.given

  pub highest_check : {sx sy dx dy : ℕ} {labels drawn labels' : List ℕ} {r : Checked} → CheckCall m sx sy dx dy labels drawn labels' r
      → ¬ (r.refusal ≡ end_closed)
  highest_check {sx} {sy} {dx} {dy} {labels} c = ends_open (labels ∷ []) sx sy dx dy [] (omega arith) c.given

  pub highest_lines : {sx sy dx dy : ℕ} {labels labels' : List ℕ} {r : CrossingLines} → LinesCall m sx sy dx dy labels labels' r
      → ¬ (r.refusal ≡ end_closed)
  highest_lines {sx} {sy} {dx} {dy} {labels} c = ends_open (labels ∷ []) sx sy dx dy [] (omega arith) c.given

  pub highest_lines_drive : {sx sy dx dy : ℕ} {labels region route labels' region' route' : List ℕ} {state state' : ℕ} {r : Drove}
      → LinesDriveCall m sx sy dx dy labels region route state labels' region' route' state' r → ¬ (r.refusal ≡ end_closed)
  highest_lines_drive {sx} {sy} {dx} {dy} {labels} {region} {route} c =
      ends_open (labels ∷ region ∷ []) sx sy dx dy (lines_rule m.width m.height (ClosedBy m) sx sy dx dy ∷ Rules.route_rule sx sy dx dy route ∷ []) (omega arith) c.given
