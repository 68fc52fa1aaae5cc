-- Refusals by their occasions as one table of rows, and what it means that a row holds, said with
-- the calls' promises. On most of these occasions more than one refusal applies: "The lowest number
-- that applies is given". That every row holds is proved in RefusalSettled.
use Rattle.std.specs.Prelude.{◌≡◌, List, [], ◌∷◌, ◌++◌, ℕ, ◌+◌, replicate}
use Rattle.field.specs.declared.Marker.{Marker}
use Rattle.field.specs.Limits.{side_number}
use Rattle.field.specs.Labels.{blank}
use Rattle.field.specs.Table.{place, R, wide, high, markers_on}
use Rattle.markers.specs.Promise.{marker}
use Rattle.calls.specs.Rules
use Rattle.calls.specs.Rules.{Gives, LentMap, lent_map}
use Rattle.calls.specs.Calls.{EnterCall, ClearCall, LabelCall, DistancesCall, HopCall, RegionCall, DriveCall, WriteCall}
use Rattle.calls.specs.declared.Counted.{Counted}
use Rattle.calls.specs.declared.Labelling.{Labelling}
use Rattle.calls.specs.declared.Four.{Four}
use Rattle.calls.specs.declared.Homeward.{Homeward}
use Rattle.calls.specs.declared.Drove.{Drove}
use Rattle.calls.specs.declared.WroteMap.{WroteMap}

-- One row's claim: a call with these numbers and lent things gives n, a refusal, or 0. `lent` is
-- the region sheet.
pub data Row : Type 0 where
  enter : (m : LentMap) (id x y n : ℕ) → Row
  clear : (m : LentMap) (id n : ℕ) → Row
  label : (m : LentMap) (labels : List ℕ) (n : ℕ) → Row
  distances : (m : LentMap) (x y : ℕ) (labels : List ℕ) (n : ℕ) → Row
  hop : (m : LentMap) (hx hy x y : ℕ) (labels : List ℕ) (n : ℕ) → Row
  region : (m : LentMap) (sx sy dx dy : ℕ) (labels lent : List ℕ) (n : ℕ) → Row
  drive : (m : LentMap) (sx sy dx dy : ℕ) (labels lent route : List ℕ) (n : ℕ) → Row
  write : (m : LentMap) (out : List ℕ) (n : ℕ) → Row

-- The call's rules give n, and its promise allows no other number.
abbrev pub Holds : Row → Type 0
Holds (enter m id x y n) =
    Gives (Rules.enter_table m id x y) n × ((height : ℕ) (list' : List Marker) (r : Counted) → EnterCall m id x y height list' r → r.refusal ≡ n)
Holds (clear m id n) =
    Gives (Rules.clear_table m id) n × ((list' : List Marker) (r : Counted) → ClearCall m id list' r → r.refusal ≡ n)
Holds (label m labels n) =
    Gives (Rules.label_table m labels) n × ((labels' : List ℕ) (r : Labelling) → LabelCall m labels labels' r → r.refusal ≡ n)
Holds (distances m x y labels n) =
    Gives (Rules.distances_table m x y labels) n
    × ((labels' : List ℕ) (r : Four) → DistancesCall m x y labels labels' r → r.refusal ≡ n)
Holds (hop m hx hy x y labels n) =
    Gives (Rules.hop_table m hx hy x y labels) n
    × ((labels' : List ℕ) (r : Homeward) → HopCall m hx hy x y labels labels' r → r.refusal ≡ n)
Holds (region m sx sy dx dy labels lent n) =
    Gives (Rules.region_table m sx sy dx dy labels lent) n
    × ((labels' region' : List ℕ) (r : ℕ) → RegionCall m sx sy dx dy labels lent labels' region' r → r ≡ n)
Holds (drive m sx sy dx dy labels lent route n) =
    Gives (Rules.drive_table m sx sy dx dy labels lent route) n
    × ((state : ℕ) (labels' region' route' : List ℕ) (state' : ℕ) (r : Drove)
    → DriveCall m sx sy dx dy labels lent route state labels' region' route' state' r → r.refusal ≡ n)
Holds (write m out n) =
    Gives (Rules.write_table m out) n × ((out' : List ℕ) (r : WroteMap) → WriteCall m out out' r → r.refusal ≡ n)

-- The map of document 01's examples, 8 by 8: its list has the rocks R with ids 1, 2 and 3, and
-- every slot lent is in use; or one slot is left.
abbrev pub full : LentMap
full = lent_map (markers_on R) 3 wide high 0

abbrev pub roomy : LentMap
roomy = lent_map (markers_on R ++ blank ∷ []) 3 wide high 0

-- One more is said to be in use than there are slots.
abbrev pub over : LentMap
over = lent_map (markers_on R) 4 wide high 0

-- One marker, and a second on the same crossing.
abbrev pub one_rock : LentMap
one_rock = lent_map (markers_on (place 7 0 ∷ [])) 1 wide high 0

abbrev pub two_on_one : LentMap
two_on_one = lent_map (markers_on (place 7 0 ∷ place 7 0 ∷ [])) 2 wide high 0

-- The second one low, for a cart that passes over it; both low; and one of no height off the map
-- (document 02, Req 08).
abbrev pub low_on_one : LentMap
low_on_one = lent_map (marker 1 7 0 90 ∷ marker 2 7 0 5 ∷ []) 2 wide high 10

abbrev pub both_low : LentMap
both_low = lent_map (marker 1 7 0 9 ∷ marker 2 7 0 0 ∷ []) 2 wide high 10

abbrev pub low_off : LentMap
low_off = lent_map (marker 1 8 0 0 ∷ []) 1 wide high 10

-- A sheet, a route or an output of n zeros.
abbrev pub zeros : ℕ → List ℕ
zeros n = replicate n 0

-- The table. Above each row stands what it shows.
unfoldable pub table : List Row
table =
    -- 1 before 2 and 3: a map of width 0 or over the limit, with a sheet that is not of its size,
    -- and with markers off the map or more in use than lent.
    enter (lent_map (markers_on R) 3 0 8 0) 9 0 0 1
    ∷ clear (lent_map (markers_on R) 4 8 0 0) 1 1
    ∷ label (lent_map (markers_on R) 4 (side_number + 1) 8 0) (zeros 64) 1
    -- The limit itself is not over the limit.
    ∷ label (lent_map [] 0 side_number 1 0) (zeros side_number) 0
    -- 2 before 3, and 3 where the sheet is of the map's size.
    ∷ label over (zeros 63) 2
    ∷ label over (zeros 64) 3
    -- 2 for the second sheet, before 4.
    ∷ region full 8 0 0 0 (zeros 64) (zeros 65) 2
    -- 3 before 4, 5 and 6.
    ∷ distances over 8 0 (zeros 64) 3
    ∷ enter over 0 8 0 3
    ∷ clear over 9 3
    -- 4 before 5 and 7: an id in use, and no slot. A new id of 0 is 4 too.
    ∷ enter full 2 8 0 4
    ∷ enter full 0 0 0 4
    -- 5 before 7; 7 where the id is not in use; neither where a slot is left.
    ∷ enter full 2 0 0 5
    ∷ enter full 9 0 0 7
    ∷ enter roomy 9 0 0 0
    -- 6, and none where the id is in use.
    ∷ clear full 9 6
    ∷ clear full 2 0
    -- 4 before 8: (4,3) is a rock.
    ∷ region full 4 3 8 0 (zeros 64) (zeros 64) 4
    -- 8 before 11: a closed home is not assured either. 11 where both are open.
    ∷ hop full 4 3 0 2 (zeros 64) 8
    ∷ hop full 0 2 4 5 (zeros 64) 11
    ∷ hop full 0 2 3 5 (zeros 64) 0
    -- 8 before 10, and 9 before 10: no shortest drive leads to a closed crossing either.
    ∷ drive full 0 2 4 3 (zeros 64) (zeros 64) [] 8
    ∷ drive full 0 2 7 2 (zeros 64) (zeros 64) [] 9
    -- "route buffer shorter than distance + 1": the distance is 9, and a route of 9 is too short; a
    -- route of exactly 10 is not. From a crossing to itself one crossing is needed.
    ∷ drive full 0 2 7 4 (zeros 64) (zeros 64) (zeros 9) 10
    ∷ drive full 0 2 7 4 (zeros 64) (zeros 64) (zeros 10) 0
    ∷ drive full 0 2 0 2 (zeros 64) (zeros 64) [] 10
    ∷ drive full 0 2 0 2 (zeros 64) (zeros 64) (zeros 1) 0
    -- 16 before 17; 17 where the output is one byte short, and none where the file just fits.
    ∷ write two_on_one [] 16
    ∷ write one_rock (zeros 14) 17
    ∷ write one_rock (zeros 15) 0
    -- "16 looks at all markers, low ones included": one of two, and both. A list whose only fault
    -- is in a low marker is 3 all the same.
    ∷ write low_on_one (zeros 15) 16
    ∷ write both_low (zeros 15) 16
    ∷ label low_off (zeros 64) 3
    ∷ []
