-- Refusals: the rows of document 01's table, and for each call the rows that it can meet. "The
-- lowest number that applies is given." `m` is the lent map. Rows 8 to 11 are said of the closed
-- crossings C, whatever tells them.
use Rattle.std.specs.Prelude.{◌≡◌, List, [], ◌∷◌, ◌⊎◌, ℕ, ◌+◌, ◌*◌, ◌<◌, length}
use Rattle.field.specs.declared.Marker.{Marker}
use Rattle.field.specs.Map.{dist, most_markers}
use Rattle.field.specs.Refusals.{bad_size, bad_sheet, bad_list, bad_place, id_in_use, id_not_in_use, no_slot, end_closed, no_drive, short_route, not_assured, shared_crossing, short_output}
use Rattle.field.specs.Labels.{Open}
use Rattle.field.specs.Distances.{Assured}
use Rattle.field.specs.Drives.{HasDrive}
use Rattle.markers.specs.List.{slot, InUse}
use Rattle.mapfile.specs.Written.{Written}
pub use Rattle.calls.specs.Rule.{Rule, rule, Gives, gives_one}
pub use Rattle.calls.specs.LentMap.{LentMap, lent_map, lent_list, with_clearance, Sized, OnIt, Formed, markers_in, RocksOf, ClosedBy}

-- 1: "width or height is 0 or over 64"; "1, 3 and 7 read the new limits" (Req 07): 256 and 8,192
abbrev pub size_rule : LentMap → Rule
size_rule m = rule bad_size (¬ Sized m)

-- 2: "a lent sheet is not width × height bytes"; "2 counts sixteen-bit numbers in a distance
-- sheet" (Req 07)
abbrev pub Misfit : ℕ → ℕ → List (List ℕ) → Type 0
Misfit w h [] = ⊥
Misfit w h (s ∷ ss) = (¬ (length s ≡ h * w)) ⊎ Misfit w h ss

abbrev pub sheet_rule : LentMap → List (List ℕ) → Rule
sheet_rule m sheets = rule bad_sheet (Misfit m.width m.height sheets)

-- 3: "count over 4,096 or over the list lent, an id 0, ids not rising, or a marker off the map";
-- with Req 07 over 8,192
abbrev pub list_rule : LentMap → Rule
list_rule m = rule bad_list (¬ Formed m)

-- 4: "a place or new marker off the map, or a new id of 0"
abbrev pub place_rule : LentMap → ℕ → ℕ → Rule
place_rule m x y = rule bad_place (¬ OnIt m x y)

abbrev pub places_rule : LentMap → ℕ → ℕ → ℕ → ℕ → Rule
places_rule m x y a b = rule bad_place ((¬ OnIt m x y) ⊎ (¬ OnIt m a b))

abbrev pub new_rule : LentMap → ℕ → ℕ → ℕ → Rule
new_rule m id x y = rule bad_place ((¬ OnIt m x y) ⊎ (id ≡ 0))

-- 5: "entering an id in use"
abbrev pub in_use_rule : LentMap → ℕ → Rule
in_use_rule m id = rule id_in_use (InUse m.list m.count id)

-- 6: "clearing an id not in use"
abbrev pub not_in_use_rule : LentMap → ℕ → Rule
not_in_use_rule m id = rule id_not_in_use (¬ InUse m.list m.count id)

-- 7: "no slot: count ... would pass the list lent or 4,096", with Req 07 8,192
abbrev pub slot_rule : LentMap → Rule
slot_rule m = rule no_slot ((length m.list < m.count + 1) ⊎ (most_markers < m.count + 1))

-- 8: "assurance, hop, region or drive asked, an end (home, place, s or d) closed"
abbrev pub AnEndClosed : (ℕ → ℕ → Type 0) → ℕ → ℕ → ℕ → ℕ → Type 0
AnEndClosed C x y a b = C x y ⊎ C a b

abbrev pub ends_rule : (ℕ → ℕ → Type 0) → ℕ → ℕ → ℕ → ℕ → Rule
ends_rule C x y a b = rule end_closed (AnEndClosed C x y a b)

-- 9: "region or drive asked, both ends open, no shortest drive"
pub record NoWay (w h : ℕ) (C : ℕ → ℕ → Type 0) (sx sy dx dy : ℕ) : Type 0 where
  pub from : Open w h C sx sy
  pub to : Open w h C dx dy
  pub none : ¬ HasDrive w h C sx sy dx dy

abbrev pub drive_rule : ℕ → ℕ → (ℕ → ℕ → Type 0) → ℕ → ℕ → ℕ → ℕ → Rule
drive_rule w h C sx sy dx dy = rule no_drive (NoWay w h C sx sy dx dy)

-- 10: "route buffer shorter than distance + 1"
abbrev pub route_rule : ℕ → ℕ → ℕ → ℕ → List ℕ → Rule
route_rule sx sy dx dy route = rule short_route (length route < dist sx sy dx dy + 1)

-- 11: "hop asked, home not assured"
abbrev pub assured_rule : ℕ → ℕ → (ℕ → ℕ → Type 0) → ℕ → ℕ → ℕ → ℕ → Rule
assured_rule w h C hx hy x y = rule not_assured (¬ Assured w h C hx hy x y)

-- 16: "two markers on one crossing, when writing": two slots in use hold them. "16 looks at all
-- markers, low ones included" (document 02, Req 08): so nothing is said of heights.
pub record Shared (list : List Marker) (count : ℕ) : Type 0 where
  pub j : ℕ
  pub k : ℕ
  pub j_below : j < count
  pub k_below : k < count
  pub two : ¬ (j ≡ k)
  pub x : (slot list j).x ≡ (slot list k).x
  pub y : (slot list j).y ≡ (slot list k).y

abbrev pub shared_rule : LentMap → Rule
shared_rule m = rule shared_crossing (Shared m.list m.count)

-- 17: "output too short for the whole file"
pub record TooShort (w h : ℕ) (R : ℕ → ℕ → Type 0) (out : List ℕ) : Type 0 where
  pub file : List ℕ
  pub written : Written w h R file
  pub short : length out < length file

abbrev pub output_rule : ℕ → ℕ → (ℕ → ℕ → Type 0) → List ℕ → Rule
output_rule w h R out = rule short_output (TooShort w h R out)

-- The table of each call: the rows that it can meet, in the order of their numbers.
abbrev pub enter_table : LentMap → ℕ → ℕ → ℕ → List Rule
enter_table m id x y = size_rule m ∷ list_rule m ∷ new_rule m id x y ∷ in_use_rule m id ∷ slot_rule m ∷ []

abbrev pub clear_table : LentMap → ℕ → List Rule
clear_table m id = size_rule m ∷ list_rule m ∷ not_in_use_rule m id ∷ []

abbrev pub write_table : LentMap → List ℕ → List Rule
write_table m out = size_rule m ∷ list_rule m ∷ shared_rule m ∷ output_rule m.width m.height (RocksOf m) out ∷ []

-- Every asking is lent a label sheet, and some are lent more sheets. Its own rows come after the
-- first three.
abbrev pub asking_table : LentMap → List (List ℕ) → List Rule → List Rule
asking_table m sheets own = size_rule m ∷ sheet_rule m sheets ∷ list_rule m ∷ own

abbrev pub label_table : LentMap → List ℕ → List Rule
label_table m labels = asking_table m (labels ∷ []) []

abbrev pub distances_table : LentMap → ℕ → ℕ → List ℕ → List Rule
distances_table m x y labels = asking_table m (labels ∷ []) (place_rule m x y ∷ [])

abbrev pub measure_table : LentMap → List ℕ → List ℕ → List ℕ → List ℕ → List ℕ → List Rule
measure_table m labels east south west north = asking_table m (labels ∷ east ∷ south ∷ west ∷ north ∷ []) []

-- The rows that need the labels.
abbrev pub assured_rows : (ℕ → ℕ → Type 0) → ℕ → ℕ → ℕ → ℕ → List Rule
assured_rows C hx hy x y = ends_rule C hx hy x y ∷ []

abbrev pub hop_rows : ℕ → ℕ → (ℕ → ℕ → Type 0) → ℕ → ℕ → ℕ → ℕ → List Rule
hop_rows w h C hx hy x y = ends_rule C hx hy x y ∷ assured_rule w h C hx hy x y ∷ []

abbrev pub region_rows : ℕ → ℕ → (ℕ → ℕ → Type 0) → ℕ → ℕ → ℕ → ℕ → List Rule
region_rows w h C sx sy dx dy = ends_rule C sx sy dx dy ∷ drive_rule w h C sx sy dx dy ∷ []

abbrev pub drive_rows : ℕ → ℕ → (ℕ → ℕ → Type 0) → ℕ → ℕ → ℕ → ℕ → List ℕ → List Rule
drive_rows w h C sx sy dx dy route = ends_rule C sx sy dx dy ∷ drive_rule w h C sx sy dx dy ∷ route_rule sx sy dx dy route ∷ []

abbrev pub assured_table : LentMap → ℕ → ℕ → ℕ → ℕ → List ℕ → List Rule
assured_table m hx hy x y labels = asking_table m (labels ∷ []) (places_rule m hx hy x y ∷ assured_rows (ClosedBy m) hx hy x y)

abbrev pub hop_table : LentMap → ℕ → ℕ → ℕ → ℕ → List ℕ → List Rule
hop_table m hx hy x y labels = asking_table m (labels ∷ []) (places_rule m hx hy x y ∷ hop_rows m.width m.height (ClosedBy m) hx hy x y)

abbrev pub region_table : LentMap → ℕ → ℕ → ℕ → ℕ → List ℕ → List ℕ → List Rule
region_table m sx sy dx dy labels region =
    asking_table m (labels ∷ region ∷ []) (places_rule m sx sy dx dy ∷ region_rows m.width m.height (ClosedBy m) sx sy dx dy)

abbrev pub drive_table : LentMap → ℕ → ℕ → ℕ → ℕ → List ℕ → List ℕ → List ℕ → List Rule
drive_table m sx sy dx dy labels region route =
    asking_table m (labels ∷ region ∷ []) (places_rule m sx sy dx dy ∷ drive_rows m.width m.height (ClosedBy m) sx sy dx dy route)
