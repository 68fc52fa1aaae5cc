-- The demands in the calls' own terms. Each holds of every outcome that the promises allow, and
-- each promise allows one outcome (Outcome).
--     list         after any sequence of enter, clear and read calls the list is well formed, and no marker is lost on the way
--     groups       labelling such a list, every group is a full rectangle, any two groups at least three hops apart
--     way home     a cart whose home is assured, and that asks for hops and takes any that is named, is there after exactly the distance
--     drive        a drive that is given is a shortest drive; between open ends 9 is given exactly where there is none
use Rattle.std.specs.Prelude.{◌≡◌, refl, true, List, ◌↔◌, ℕ, ◌+◌, ◌*◌, ◌≤◌, length, take}
use Rattle.std.proofs.Common.{arith}
use Rattle.field.specs.declared.Marker.{Marker}
use Rattle.field.specs.Map.{dist}
use Rattle.field.specs.Refusals.{no_drive}
use Rattle.field.specs.Labels.{Open}
use Rattle.field.specs.Groups.{Linked, GroupsApart}
use Rattle.field.specs.Hops.{Permitted, There}
use Rattle.field.specs.Drives.{ShortestDrive, HasDrive}
use Rattle.field.specs.Geometry.Shapes.{Rectangle}
use Rattle.field.proofs.Geometry.WayHome
use Rattle.field.proofs.Workings.GridLaws.{dist_none, dist_zero}
use Rattle.field.specs.Workings.Sheet.{Marked, Draws}
use Rattle.markers.specs.List.{Same, Times}
use Rattle.markers.specs.Promise.{marker}
use Rattle.markers.proofs.Theorems
use Rattle.markers.proofs.Laws.Reached.{empty_formed}
use Rattle.calls.specs.Rules.{LentMap, lent_map, with_clearance, Sized, Formed, markers_in, ClosedBy}
use Rattle.calls.specs.Calls.{EnterCall, ClearCall, LabelCall, AssuredCall, HopCall, RegionCall, DriveCall, RouteCall}
use Rattle.calls.specs.Sequences.{GoesOn, Calls, Sparing, Names, SaysThere, Journey, move}
use Rattle.calls.proofs.ListCalls
use Rattle.calls.specs.ListCalls.{MapReached, AsOften}
use Rattle.calls.specs.LabelCalls
use Rattle.calls.proofs.HopCalls
use Rattle.calls.proofs.HopCalls.{Assurances}
use Rattle.calls.proofs.DriveCalls
use Rattle.calls.specs.DriveCalls.{BetweenOpen}
use Rattle.calls.specs.declared.Counted.{Counted}
use Rattle.calls.specs.declared.Labelling.{Labelling}
use Rattle.calls.specs.declared.Assurance.{Assurance}
use Rattle.calls.specs.declared.Homeward.{Homeward}
use Rattle.calls.specs.declared.Drove.{Drove}

-- The list, after any sequence of enter, clear and read calls. A list with nothing in use is a
-- start, whatever its slots hold.
pub empty_start : (list : List Marker) (w h clearance : ℕ) → Calls (lent_map list 0 w h clearance)
empty_start list w h clearance = Calls.start (empty_formed w h list 0 refl)

module _ {m : LentMap} (calls : Calls m) where
  pub calls_reached : MapReached m
  calls_reached = ListCalls.calls_reached calls

  pub calls_formed : Formed m
  calls_formed = Theorems.reached_formed m.width m.height calls_reached

  -- Its groups, as a label call shows them for any cart: the label sheet's marks are the labels
  -- that are not 0.
  module _ {clearance : ℕ} {labels labels' : List ℕ} {r : Labelling} (sides : Sized m) (fits : length labels ≡ m.height * m.width)
      (asked : LabelCall (with_clearance m clearance) labels labels' r) where
    abbrev ShownClosed : ℕ → ℕ → Type 0
    ShownClosed = Marked labels' m.width m.height

    pub calls_labelled : r.refusal ≡ 0
    calls_labelled = LabelCalls.label_not_refused asked sides fits calls_formed

    pub calls_draws : Draws m.width m.height (ClosedBy (with_clearance m clearance)) labels'
    calls_draws = LabelCalls.label_draws asked calls_labelled

    pub calls_rectangles : (x y : ℕ) → ShownClosed x y → Rectangle ShownClosed x y
    calls_rectangles = LabelCalls.label_rectangles asked calls_labelled

    pub calls_closed_apart : (x y a b : ℕ) → ShownClosed x y → ShownClosed a b → ¬ Linked ShownClosed x y a b → 3 ≤ dist x y a b
    calls_closed_apart = LabelCalls.label_closed_apart asked calls_labelled

    pub calls_three_apart : {x y a b n : ℕ} → GroupsApart ShownClosed x y a b n → ¬ Linked ShownClosed x y a b → 3 ≤ n
    calls_three_apart = LabelCalls.label_three_apart asked calls_labelled

-- No marker is lost: across a call every other marker stands in the list exactly as often as
-- before. A refused call changes nothing.
module _ {m next : LentMap} {id x y height : ℕ} {list' : List Marker} {r : Counted} (call : EnterCall m id x y height list' r) (after : GoesOn m list' r next) where
  pub enter_no_marker_lost : (k : Marker) → ¬ Same (marker id x y height) k → AsOften k (markers_in m) (markers_in next)
  enter_no_marker_lost = ListCalls.enter_others call after

  pub enter_itself_once : r.refusal ≡ 0 → Times (marker id x y height) (markers_in next) 1
  enter_itself_once = ListCalls.enter_once call after

  pub enter_refused_nothing : ¬ (r.refusal ≡ 0) → (list' ≡ m.list) × (next ≡ m)
  enter_refused_nothing n = (call.kept n, after.old n)

module _ {m next : LentMap} {id : ℕ} {list' : List Marker} {r : Counted} (call : ClearCall m id list' r) (after : GoesOn m list' r next) where
  pub clear_no_marker_lost : (k : Marker) → ¬ (k.id ≡ id) → AsOften k (markers_in m) (markers_in next)
  clear_no_marker_lost = ListCalls.clear_others call after

  pub clear_itself_none : r.refusal ≡ 0 → (k : Marker) → k.id ≡ id → Times k (markers_in next) 0
  clear_itself_none = ListCalls.clear_none call after

  pub clear_refused_nothing : ¬ (r.refusal ≡ 0) → (list' ≡ m.list) × (next ≡ m)
  clear_refused_nothing n = (call.kept n, after.old n)

-- Over a sequence: a marker that stands in the list, on its crossing, under its id and with its
-- height, stands there exactly once still, whatever else is entered and cleared, until its id is
-- cleared or a read map replaces the list. So none is dropped, moved or joined.
pub marker_kept : {m next : LentMap} {k : Marker} → Times k (markers_in m) 1 → Sparing k.id m next → Times k (markers_in next) 1
marker_kept = ListCalls.spared

-- The way home. The cart has asked, with its clearance, whether home (hx, hy) is assured for (x,
-- y), and the answer was yes. It keeps the clearance on the way: m is one lent map.
module _ {m : LentMap} {hx hy x y : ℕ} {labels labels' : List ℕ} {r : Assurance} (asked : AssuredCall m hx hy x y labels labels' r)
    (given : r.refusal ≡ 0) (assured : r.assured ≡ true) where
  known : {n a b : ℕ} → Journey m hx hy x y n a b → Assurances m hx hy a b
  known j = HopCalls.journey_assured (HopCalls.assured_yes asked given assured) j

  -- At each stage: the crossing is open, and hops taken and hops left make the distance. So it is
  -- home after exactly the distance, and never before.
  pub journey_open : {n a b : ℕ} → Journey m hx hy x y n a b → Open m.width m.height (ClosedBy m) a b
  journey_open j = (known j).assured.place

  pub journey_count : {n a b : ℕ} → Journey m hx hy x y n a b → n + dist a b hx hy ≡ dist x y hx hy
  journey_count j = WayHome.taken_count (HopCalls.journey_taken j)

  pub journey_home : {n a b : ℕ} → Journey m hx hy x y n a b → There hx hy a b ↔ (n ≡ dist x y hx hy)
  journey_home {n} {a} {b} j =
      (λ t. omega (arith, journey_count j, dist_none t.0 t.1), λ e. dist_zero a b hx hy (omega (arith, journey_count j)))

  -- The next hop call, with any sheet of the map's size: it is not refused; it says "there" exactly
  -- at home; it names exactly the permitted hops; and until it says "there" it names one at least,
  -- so that the cart can always go on.
  module _ {n a b : ℕ} {sheet sheet' : List ℕ} {s : Homeward} (way : Journey m hx hy x y n a b) (fits : length sheet ≡ m.height * m.width)
      (next : HopCall m hx hy a b sheet sheet' s) where
    pub journey_not_refused : s.refusal ≡ 0
    journey_not_refused = HopCalls.hop_not_refused next (known way) fits

    pub journey_there : SaysThere s ↔ There hx hy a b
    journey_there = HopCalls.hop_there next journey_not_refused

    pub journey_names : (c d : ℕ) → Names s c d ↔ Permitted m.width m.height (ClosedBy m) hx hy a b c d
    journey_names = HopCalls.hop_names next journey_not_refused

    pub journey_goes_on : ¬ SaysThere s → (c : ℕ) × (d : ℕ) × Names s c d
    journey_goes_on = HopCalls.hop_some next journey_not_refused

    pub journey_moves : (c d : ℕ) → Names s c d → Journey m hx hy x y (n + 1) c d
    journey_moves c d k = move {k = n + 1} way next journey_not_refused k (omega arith)

-- A drive call that is not refused: the route's front is a shortest drive, s first and d last.
pub drive_is_shortest : {m : LentMap} {sx sy dx dy : ℕ} {labels region route labels' region' route' : List ℕ} {state state' : ℕ} {r : Drove}
    → DriveCall m sx sy dx dy labels region route state labels' region' route' state' r → r.refusal ≡ 0
    → ShortestDrive m.width m.height (ClosedBy m) sx sy dx dy (take r.length route')
drive_is_shortest = DriveCalls.drive_shortest

-- The same of the drive whose part is handed back: the part is a shortest drive.
pub route_is_shortest : {m : LentMap} {sx sy dx dy : ℕ} {labels region route labels' region' part : List ℕ} {state number state' : ℕ} {from at : ℕ × ℕ}
    → RouteCall m sx sy dx dy labels region route state labels' region' part number state' from at → number ≡ 0
    → ShortestDrive m.width m.height (ClosedBy m) sx sy dx dy part
route_is_shortest = DriveCalls.route_shortest

-- Refusal 9, asked between open ends with nothing else amiss: exactly where there is no shortest
-- drive.
module _ {m : LentMap} {sx sy dx dy : ℕ} {labels region : List ℕ} (fits : BetweenOpen m sx sy dx dy labels region) where
  pub drive_refused_9 : {route labels' region' route' : List ℕ} {state state' : ℕ} {r : Drove}
      → DriveCall m sx sy dx dy labels region route state labels' region' route' state' r
      → (r.refusal ≡ no_drive) ↔ (¬ HasDrive m.width m.height (ClosedBy m) sx sy dx dy)
  drive_refused_9 = DriveCalls.drive_nine fits

  pub route_refused_9 : {route labels' region' part : List ℕ} {state number state' : ℕ} {from at : ℕ × ℕ}
      → RouteCall m sx sy dx dy labels region route state labels' region' part number state' from at
      → (number ≡ no_drive) ↔ (¬ HasDrive m.width m.height (ClosedBy m) sx sy dx dy)
  route_refused_9 = DriveCalls.route_nine fits

  pub region_refused_9 : {labels' region' : List ℕ} {r : ℕ} → RegionCall m sx sy dx dy labels region labels' region' r
      → (r ≡ no_drive) ↔ (¬ HasDrive m.width m.height (ClosedBy m) sx sy dx dy)
  region_refused_9 = DriveCalls.region_nine fits
