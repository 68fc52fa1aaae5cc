-- The promise of each public call: its rules, and what its answer and every lent byte, slot and
-- number hold, on success and at each refusal. `m` is the lent map; a primed name is what the call
-- leaves.
use Rattle.std.specs.Prelude.{◌≡◌, true, List, [], ◌↔◌, ℕ, length}
use Rattle.field.specs.declared.Marker.{Marker}
use Rattle.field.specs.Distances.{Distances, eastward, southward, westward, northward, Assured}
use Rattle.field.specs.Chooser.{Driven}
use Rattle.markers.specs.Promise.{marker, Enters, Clears}
use Rattle.calls.specs.Rules
use Rattle.calls.specs.Rules.{Gives, LentMap, RocksOf, ClosedBy}
use Rattle.calls.specs.Answers.{
  no_count,
  no_labelling,
  no_four,
  no_assurance,
  no_hop,
  no_map,
  no_bytes,
  LabelsAfter,
  LabelNumbers,
  DistancesAfter,
  HopsNamed,
  RegionAfter,
  RouteAfter,
  ReadFault,
  MapRead,
  MapWritten,
}
use Rattle.calls.specs.declared.Counted.{Counted}
use Rattle.calls.specs.declared.Labelling.{Labelling}
use Rattle.calls.specs.declared.Four.{Four}
use Rattle.calls.specs.declared.Assurance.{Assurance}
use Rattle.calls.specs.declared.Homeward.{Homeward}
use Rattle.calls.specs.declared.Drove.{Drove}
use Rattle.calls.specs.declared.ReadMap.{ReadMap}
use Rattle.calls.specs.declared.WroteMap.{WroteMap}

-- enter: "puts the marker at its place by id and moves the later ones up by one". Every height is
-- allowed.
pub record EnterCall (m : LentMap) (id x y height : ℕ) (list' : List Marker) (r : Counted) : Type 0 where
  pub given : Gives (Rules.enter_table m id x y) r.refusal
  pub kept : ¬ (r.refusal ≡ 0) → list' ≡ m.list
  pub refused : ¬ (r.refusal ≡ 0) → r ≡ no_count r.refusal
  pub done : r.refusal ≡ 0 → Enters m.list m.count (marker id x y height) list' r.count

-- clear: "moves the later ones down and sets the one slot so freed to zeros"
pub record ClearCall (m : LentMap) (id : ℕ) (list' : List Marker) (r : Counted) : Type 0 where
  pub given : Gives (Rules.clear_table m id) r.refusal
  pub kept : ¬ (r.refusal ≡ 0) → list' ≡ m.list
  pub refused : ¬ (r.refusal ≡ 0) → r ≡ no_count r.refusal
  pub done : r.refusal ≡ 0 → Clears m.list m.count id list' r.count

-- label: "hands back the numbers of rocks' crossings, shut crossings and groups"
pub record LabelCall (m : LentMap) (labels labels' : List ℕ) (r : Labelling) : Type 0 where
  pub given : Gives (Rules.label_table m labels) r.refusal
  pub labels_after : LabelsAfter (RocksOf m) m.width m.height r.refusal labels labels'
  pub refused : ¬ (r.refusal ≡ 0) → r ≡ no_labelling r.refusal
  pub done : r.refusal ≡ 0 → LabelNumbers (RocksOf m) m.width m.height r

-- distances of one crossing: "an array of four numbers by value"
pub record DistancesCall (m : LentMap) (x y : ℕ) (labels labels' : List ℕ) (r : Four) : Type 0 where
  pub given : Gives (Rules.distances_table m x y labels) r.refusal
  pub labels_after : LabelsAfter (RocksOf m) m.width m.height r.refusal labels labels'
  pub refused : ¬ (r.refusal ≡ 0) → r ≡ no_four r.refusal
  pub done : r.refusal ≡ 0 → Distances (ClosedBy m) x y r.four

-- distances of the map: "as four lent sheets of one byte a crossing", with Req 07 of sixteen bits
pub record MeasureCall (m : LentMap) (labels east south west north labels' east' south' west' north' : List ℕ) (r : ℕ) : Type 0 where
  pub given : Gives (Rules.measure_table m labels east south west north) r
  pub labels_after : LabelsAfter (RocksOf m) m.width m.height r labels labels'
  pub east_after : DistancesAfter m.width m.height (ClosedBy m) eastward r east east'
  pub south_after : DistancesAfter m.width m.height (ClosedBy m) southward r south south'
  pub west_after : DistancesAfter m.width m.height (ClosedBy m) westward r west west'
  pub north_after : DistancesAfter m.width m.height (ClosedBy m) northward r north north'

-- assured: yes exactly where home is assured
pub record AssuredCall (m : LentMap) (hx hy x y : ℕ) (labels labels' : List ℕ) (r : Assurance) : Type 0 where
  pub given : Gives (Rules.assured_table m hx hy x y labels) r.refusal
  pub labels_after : LabelsAfter (RocksOf m) m.width m.height r.refusal labels labels'
  pub refused : ¬ (r.refusal ≡ 0) → r ≡ no_assurance r.refusal
  pub done : r.refusal ≡ 0 → ((r.assured ≡ true) ↔ Assured m.width m.height (ClosedBy m) hx hy x y)

-- hop: there, one crossing, or two
pub record HopCall (m : LentMap) (hx hy x y : ℕ) (labels labels' : List ℕ) (r : Homeward) : Type 0 where
  pub given : Gives (Rules.hop_table m hx hy x y labels) r.refusal
  pub labels_after : LabelsAfter (RocksOf m) m.width m.height r.refusal labels labels'
  pub refused : ¬ (r.refusal ≡ 0) → r ≡ no_hop r.refusal
  pub done : r.refusal ≡ 0 → HopsNamed m.width m.height (ClosedBy m) hx hy x y r

-- region: into a lent sheet
pub record RegionCall (m : LentMap) (sx sy dx dy : ℕ) (labels region labels' region' : List ℕ) (r : ℕ) : Type 0 where
  pub given : Gives (Rules.region_table m sx sy dx dy labels region) r
  pub labels_after : LabelsAfter (RocksOf m) m.width m.height r labels labels'
  pub region_after : RegionAfter m.width m.height (ClosedBy m) sx sy dx dy r region region'

-- drive: into the front of a lent route
pub record DriveCall (m : LentMap) (sx sy dx dy : ℕ) (labels region route : List ℕ) (state : ℕ) (labels' region' route' : List ℕ) (state' : ℕ) (r : Drove) : Type 0 where
  pub given : Gives (Rules.drive_table m sx sy dx dy labels region route) r.refusal
  pub labels_after : LabelsAfter (RocksOf m) m.width m.height r.refusal labels labels'
  pub region_after : RegionAfter m.width m.height (ClosedBy m) sx sy dx dy r.refusal region region'
  pub route_after : RouteAfter m.width m.height (ClosedBy m) sx sy dx dy r.refusal r.length route state route' state'

-- drive, as document 01 names its form: "returns the leading part of the caller's mutable route
-- slice, empty on refusal"; number and state go out through lent numbers. A part that begins where
-- the lent route begins, as long as it is, is the route's leading part. What the rest of the route
-- holds is DriveCall's to say: once a part of a lent slice is handed back, no promise can speak of
-- that slice as the call ends.
pub record RouteCall (m : LentMap) (sx sy dx dy : ℕ) (labels region route : List ℕ) (state : ℕ) (labels' region' part : List ℕ) (number state' : ℕ)
    (route-begins part-begins : ℕ × ℕ) : Type 0 where
  pub given : Gives (Rules.drive_table m sx sy dx dy labels region route) number
  pub labels_after : LabelsAfter (RocksOf m) m.width m.height number labels labels'
  pub region_after : RegionAfter m.width m.height (ClosedBy m) sx sy dx dy number region region'
  pub empty : ¬ (number ≡ 0) → part ≡ []
  pub still : ¬ (number ≡ 0) → state' ≡ state
  pub driven : number ≡ 0 → Driven m.width m.height (ClosedBy m) sx sy dx dy sx sy state part state'
  pub leading : part-begins ≡ route-begins

-- read: a map file into the list
pub record ReadCall (file : List ℕ) (list list' : List Marker) (r : ReadMap) : Type 0 where
  pub given : ¬ (r.refusal ≡ 0) → ReadFault file (length list) r.refusal
  pub kept : ¬ (r.refusal ≡ 0) → list' ≡ list
  pub refused : ¬ (r.refusal ≡ 0) → r ≡ no_map r.refusal
  pub done : r.refusal ≡ 0 → MapRead file list list' r

-- write: a map file from the list. "writing a map takes a clearance" (document 02, Req 08): the
-- rocks written are those of a cart with that clearance.
pub record WriteCall (m : LentMap) (out out' : List ℕ) (r : WroteMap) : Type 0 where
  pub given : Gives (Rules.write_table m out) r.refusal
  pub kept : ¬ (r.refusal ≡ 0) → out' ≡ out
  pub refused : ¬ (r.refusal ≡ 0) → r ≡ no_bytes r.refusal
  pub done : r.refusal ≡ 0 → MapWritten m.width m.height (RocksOf m) out out' r
